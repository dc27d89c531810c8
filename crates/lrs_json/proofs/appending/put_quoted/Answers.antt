use Rattle.std.proofs.Common.{◌∷◌, ◌++◌, []}
use Rattle.std.specs.List.{flat_map}
use Rattle.std.proofs.lemmas.Result.{on_ok_weaker}
use Rattle.lrs_json.specs.Written.{escaped}
use Rattle.lrs_json.proofs.Pieces.{behind}
use Rattle.lrs_json.proofs.appending.put_quoted.Goals as goal

pub returns-clause-ok : goal.returns-clause-ok
returns-clause-ok c =
    on_ok_weaker c.put_to_quote.result (λ e. behind c.args.into.now.items _ _ (34 ∷ []) (flat_map escaped c.args.text.now ++ 34 ∷ []) c.in_ok-push.ensures.items e) c.put_to_quote.ensures.ok
