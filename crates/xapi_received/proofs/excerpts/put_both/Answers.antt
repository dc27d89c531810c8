use Rattle.std.proofs.lemmas.Result.{on_ok_weaker}
use Rattle.xapi_received.specs.Received.{excerpt_text}
use Rattle.xapi_received.proofs.excerpts.put_both.Goals as goal
use Rattle.lrs_json.proofs.Pieces.{behind}

pub returns-clause-ok : goal.returns-clause-ok
returns-clause-ok c =
    let text = c.args.text.now in
    on_ok_weaker c.put_excerpt-2.result (λ e. behind c.args.into.now.items c.put_excerpt.new.into.items c.put_excerpt-2.new.into.items (excerpt_text text c.args.first) (excerpt_text text c.args.second) c.in_ok-put_excerpt.ensures.ok e) c.put_excerpt-2.ensures.ok
