use Rattle.std.proofs.Common.{List, map, ap, sym, ◌∙◌}
use Rattle.lrs_json.proofs.Views.{view-List}
use Rattle.lrs_json.specs.View.{elements_of, view}
use Rattle.lrs_json.specs.declared.tree.Tree.{Tree}
use Rattle.lrs_json.specs.Parts.{items_of}
use Rattle.xapi_statement_keys.proofs.reading.items_in.Goals as goal

pub returns-in-List : goal.returns-in-List
returns-in-List c =
    ap (λ (ts : List Tree). elements_of (map view ts)) c.as_slice.ensures
    ∙ ap items_of (sym (view-List c.in-List.items))
    ∙ ap (λ (t : Tree). items_of (view t)) (sym c.in-List.is)
