use Rattle.std.proofs.Common.{arith}
use Rattle.lrs_ids.proofs.MadeIds.{set-more}
use Rattle.lrs_ids.proofs.supply.set_of.Goals as goal
use Rattle.lrs_json.proofs.Lists.{drop_item}

pub loop-id-preserved : goal.loop-id-preserved
loop-id-preserved c =
    set-more c.loop-id.ids.keys c.add_id.new.ids.keys c.args.given.now c.loop-id.id-index c.id-item.result
    (drop_item c.args.given.now c.loop-id.id-index c.id-item.result (omega arith) c.id-item.is) c.in_ok-_new.ensures.added c.loop-id.invariant
