use Rattle.std.proofs.Common.{◌≡◌, drop, map}
use Rattle.lrs_json.specs.View.{member_view, members_of}
use Rattle.lrs_json_equal.specs.SameValue.{are_named}
use Rattle.lrs_json_equal.proofs.equivalence.many_are_named.Given as goal

abbrev pub invariant-loop-member : goal.invariant-loop-member
invariant-loop-member l = are_named (members_of (map member_view l.a)) (members_of (map member_view l.b)) ≡ are_named (members_of (map member_view (drop l.member-index l.a))) (members_of (map member_view l.b))
