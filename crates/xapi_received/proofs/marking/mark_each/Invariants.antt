use Rattle.std.proofs.Common.{drop, nat_lt}
use Rattle.xapi_received.specs.Marking.{SoFar}
use Rattle.xapi_received.proofs.Memberwise.{seen}
use Rattle.xapi_received.proofs.marking.mark_each.Given as goal

-- what is kept so far, and what is left
abbrev pub invariant-loop-i : goal.invariant-loop-i
invariant-loop-i l = SoFar (seen l.members) l.fn.draft (nat_lt 0 l.i) (seen (drop l.i l.members)) l.draft l.ending
