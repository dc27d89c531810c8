use Rattle.std.proofs.Common.{◌≡◌, ◌↔◌, length}
use Rattle.xapi_alike.proofs.alike.are_identical.Given as goal

-- the lists are equal exactly where what is left of them is
abbrev pub invariant-loop-x : goal.invariant-loop-x
invariant-loop-x l = ((l.a ≡ l.b) ↔ (l.x-iterator.a.rest.now ≡ l.x-iterator.b.rest.now)) × (length l.x-iterator.a.rest.now ≡ length l.x-iterator.b.rest.now)
