use Rattle.std.proofs.lemmas.Result.{on_ok_weaker}
use Rattle.xapi_format.proofs.adding.put_both.Goals as goal
use Rattle.lrs_json.proofs.Pieces.{behind}

pub returns-clause-ok : goal.returns-clause-ok
returns-clause-ok c =
    on_ok_weaker c.put-2.result (λ e. behind c.args.into.now.items c.put.new.into.items c.put-2.new.into.items c.args.first.now c.args.second.now c.in_ok-put.ensures.ok e) c.put-2.ensures.ok
