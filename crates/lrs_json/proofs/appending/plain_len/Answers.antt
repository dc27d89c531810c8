use Rattle.std.proofs.Common.{arith}
use Rattle.lrs_json.proofs.Escaping.{block_passed}
use Rattle.lrs_json.proofs.appending.plain_len.Goals as goal

pub loop-at-preserved : goal.loop-at-preserved
loop-at-preserved c =
    (omega arith, block_passed c.args.bytes.now c.loop-at.at 8 c.loop-at.invariant.1 c.loop-at-test.true c.are_plain.result c.are_plain.ensures c.if-are_plain.true)
