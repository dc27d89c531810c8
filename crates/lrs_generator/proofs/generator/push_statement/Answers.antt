use Rattle.std.proofs.Common.{map, ◌∷◌, ◌++◌, [], ap, ◌∙◌}
use Rattle.std.proofs.lemmas.List.{map-append}
use Rattle.std.proofs.lemmas.Result.{on_ok_weaker}
use Rattle.lrs_json.specs.Json.{Json}
use Rattle.lrs_json.specs.View.{view}
use Rattle.lrs_generator.proofs.Built.{refused}
use Rattle.lrs_generator.proofs.generator.push_statement.Goals as goal

pub returns-in_err-tree : goal.returns-in_err-tree
returns-in_err-tree c = refused _ c.from_residual.result _ c.from_residual.ensures.1

pub returns : goal.returns
returns c =
    let before = c.args.trees.now in
    on_ok_weaker c.push.result
    (λ pushed. ap (map view) pushed ∙ map-append view before (c.in_ok-tree.tree ∷ []) ∙ ap (λ (j : Json). map view before ++ j ∷ []) c.in_ok-tree.ensures)
    c.push.ensures.ok
