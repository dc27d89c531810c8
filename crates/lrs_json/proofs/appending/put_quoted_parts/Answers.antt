use Rattle.std.proofs.lemmas.Result.{on_ok_weaker}
use Rattle.lrs_json.proofs.Pieces.{quoted_parts}
use Rattle.lrs_json.proofs.appending.put_quoted_parts.Goals as goal

pub returns-clause-ok : goal.returns-clause-ok
returns-clause-ok c =
    on_ok_weaker c.put_to_quote.result (λ e. quoted_parts c.args.first.now c.args.second.now c.args.into.now.items _ _ _ c.in_ok-push.ensures.items c.in_ok-put_escaped.ensures.ok e) c.put_to_quote.ensures.ok
