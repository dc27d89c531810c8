use Rattle.std.proofs.Common.{◌≡◌, ◌↔◌, length}
use Rattle.lrs_json.proofs.same.+same.Given as goal

-- the lists are equal exactly where what is left of them is
abbrev pub invariant-are_same-loop-x : goal.invariant-are_same-loop-x
invariant-are_same-loop-x l = ((l.a ≡ l.b) ↔ (l.x-iterator.a.rest.now ≡ l.x-iterator.b.rest.now)) × (length l.x-iterator.a.rest.now ≡ length l.x-iterator.b.rest.now)

abbrev pub invariant-members_are_same-loop-x : goal.invariant-members_are_same-loop-x
invariant-members_are_same-loop-x l = ((l.a ≡ l.b) ↔ (l.x-iterator.a.rest.now ≡ l.x-iterator.b.rest.now)) × (length l.x-iterator.a.rest.now ≡ length l.x-iterator.b.rest.now)
