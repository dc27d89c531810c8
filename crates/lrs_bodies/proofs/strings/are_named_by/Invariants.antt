use Rattle.std.proofs.Common.{◌≡◌, drop, map}
use Rattle.lrs_json.specs.View.{member_view, members_of}
use Rattle.lrs_names.specs.Members.{are_named_by}
use Rattle.lrs_bodies.specs.Bodies.{names_of}
use Rattle.lrs_bodies.proofs.strings.are_named_by.Given as goal

abbrev pub invariant-loop-member : goal.invariant-loop-member
invariant-loop-member l =
    are_named_by (names_of (map (λ m. (m.0.now, m.1)) l.members)) (members_of (map member_view l.own))
    ≡ are_named_by (names_of (map (λ m. (m.0.now, m.1)) l.members)) (members_of (map member_view (drop l.member-index l.own)))
