use Rattle.std.proofs.Common.{◌∙◌, [], ap, sym}
use Rattle.std.specs.Prelude.{option_map, unwrap_or}
use Rattle.lrs_state.proofs.CourseIds.{id_spelled}
use Rattle.lrs_json.specs.View.{view}
use Rattle.lrs_state.proofs.courses.id_in.Goals as goal

pub returns-in-Some : goal.returns-in-Some
returns-in-Some c =
    c.as_str.ensures.lent
    ∙ (ap (λ o. unwrap_or o []) (sym (sym c.text_under.ensures ∙ ap (option_map (λ t. t.now)) c.in-Some.is)) ∙ id_spelled (view c.args.tree.now))

pub returns-in-None : goal.returns-in-None
returns-in-None c =
    ap (λ o. unwrap_or o []) (sym (sym c.text_under.ensures ∙ ap (option_map (λ t. t.now)) c.in-None.is)) ∙ id_spelled (view c.args.tree.now)
