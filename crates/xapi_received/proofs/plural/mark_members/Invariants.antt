use Rattle.std.proofs.Common.{drop, nat_lt}
use Rattle.xapi_received.proofs.Memberwise.{Rest, seen}
use Rattle.xapi_received.proofs.plural.mark_members.Given as goal

-- with what is left, the object is whole
abbrev pub invariant-loop-i : goal.invariant-loop-i
invariant-loop-i g l = Rest g.P.Plural.change (seen l.members) l.fn.draft (nat_lt 0 l.i) (seen (drop l.i l.members)) l.draft
