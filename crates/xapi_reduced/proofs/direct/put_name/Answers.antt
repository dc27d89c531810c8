use Rattle.std.proofs.Common.{◌∷◌, ◌++◌, []}
use Rattle.std.proofs.lemmas.Result.{on_ok_weaker}
use Rattle.lrs_json.specs.Written.{comma_if, quoted}
use Rattle.lrs_json.proofs.Pieces.{behind}
use Rattle.xapi_reduced.proofs.direct.put_name.Goals as goal

pub returns-clause-ok : goal.returns-clause-ok
returns-clause-ok c =
    let start = c.args.into.now.items in
    let comma = comma_if c.args.later in
    let name = quoted c.args.name.now in
    on_ok_weaker c.put-2.result (λ e. behind start _ _ (comma ++ name) (58 ∷ []) (behind start _ _ comma name c.in_ok-put_comma.ensures.ok c.in_ok-put.ensures.ok) e) c.put-2.ensures.ok
