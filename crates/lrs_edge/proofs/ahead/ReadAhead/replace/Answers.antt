use Rattle.lrs_edge.proofs.Pieces.{no_piece}
use Rattle.lrs_edge.proofs.ahead.ReadAhead.replace.Goals as goal

pub invariant_of-self : goal.invariant_of-self
invariant_of-self g c = no_piece (g.B.Bytes.told c.args.inner) c.self.inside.start c.forget.new.piece.items c.forget.ensures
