use Rattle.lrs_edge.proofs.Pieces.{no_piece}
use Rattle.lrs_edge.proofs.ahead.ReadAhead.new.Goals as goal

pub invariant_of-result : goal.invariant_of-result
invariant_of-result g c = no_piece (g.B.Bytes.told c.args.inner) 0 c.new.result.items c.new.ensures.items
