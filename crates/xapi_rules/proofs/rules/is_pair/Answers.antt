use Rattle.std.proofs.Common.{ap, sym, ◌∙◌}
use Rattle.std.specs.Prelude.{◌==◌}
use Rattle.lrs_json.specs.View.{view}
use Rattle.lrs_json.proofs.Views.{view-List}
use Rattle.xapi_rules.specs.Rules.{is_pair}
use Rattle.xapi_rules.proofs.Lists.{length_elements}
use Rattle.xapi_rules.proofs.rules.is_pair.Goals as goal

pub returns-in-List : goal.returns-in-List
returns-in-List c =
    ap (λ n. n == 2) (c.len.ensures ∙ sym (length_elements c.in-List.items)) ∙ ap is_pair (sym (view-List c.in-List.items)) ∙ ap (λ t. is_pair (view t)) (sym c.in-List.is)
