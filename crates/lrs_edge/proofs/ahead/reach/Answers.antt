use Rattle.std.proofs.Common.{arith}
use Rattle.lrs_edge.proofs.Pieces.{read_inside}
use Rattle.lrs_edge.proofs.ahead.reach.Goals as goal

pub returns-in-Some-clause-reached : goal.returns-in-Some-clause-reached
returns-in-Some-clause-reached g c =
    read_inside (g.B.Bytes.told c.args.inner.now) c.args.start.now c.in-Some.within c.args.offset c.args.count c.args.piece.now.items c.requires c.in-Some.ensures.0
    (omega (arith, c.in-Some.ensures.1, c.len.ensures))
