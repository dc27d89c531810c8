use Rattle.std.proofs.Common.{sym}
use Rattle.lrs_edge.proofs.ahead.ReadAhead.read_at.Goals as goal

pub read_through-requires : goal.read_through-requires
read_through-requires g c = c.self.invariant

pub invariant_of-self : goal.invariant_of-self
invariant_of-self g c = c.read_through.ensures.piece

pub returns-clause-number : goal.returns-clause-number
returns-clause-number g c = rw (sym c.self.view_is) c.read_through.ensures.number

pub returns-clause-bytes : goal.returns-clause-bytes
returns-clause-bytes g c = rw (sym c.self.view_is) c.read_through.ensures.bytes

pub returns-clause-same : goal.returns-clause-same
returns-clause-same g c = c.self.view_is
