use Rattle.std.proofs.Common.{[], ◌∷◌, ◌++◌, sym, ◌∙◌}
use Rattle.std.specs.List.{flat_map}
use Rattle.lrs_json.specs.Written.{escaped}
use Rattle.lrs_json.proofs.Behind.{none_behind, some_behind}
use Rattle.lrs_json.proofs.matching.behind_quoted.Goals as goal

pub returns-in_err-inside : goal.returns-in_err-inside
returns-in_err-inside c =
    rw (c.from_residual.ensures) (sym (none_behind (34 ∷ []) (flat_map escaped c.args.text.now ++ 34 ∷ []) c.args.bytes.now c.behind.result c.behind.ensures c.in_err-inside.was))

pub returns-in_err-behind_escaped : goal.returns-in_err-behind_escaped
returns-in_err-behind_escaped c =
    let inside = flat_map escaped c.args.text.now in
    rw (c.from_residual-in_err-behind_escaped.ensures)
    (sym (some_behind (34 ∷ []) (inside ++ 34 ∷ []) c.args.bytes.now c.behind.result c.in_ok-inside.inside c.behind.ensures c.in_ok-inside.was
    ∙ none_behind inside (34 ∷ []) _ c.behind_escaped.result c.behind_escaped.ensures c.in_err-behind_escaped.was))

pub returns : goal.returns
returns c =
    let inside = flat_map escaped c.args.text.now in
    c.behind-2.ensures
    ∙ sym (some_behind (34 ∷ []) (inside ++ 34 ∷ []) c.args.bytes.now c.behind.result c.in_ok-inside.inside c.behind.ensures c.in_ok-inside.was
    ∙ some_behind inside (34 ∷ []) _ c.behind_escaped.result c.in_ok-behind_escaped.field-0 c.behind_escaped.ensures c.in_ok-behind_escaped.was)
