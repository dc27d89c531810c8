use Rattle.std.proofs.Common.{◌≡◌, drop, map}
use Rattle.lrs_names.specs.Members.{is_one_of}
use Rattle.lrs_bodies.specs.Bodies.{names_of}
use Rattle.lrs_bodies.proofs.strings.is_named.Given as goal

abbrev pub invariant-loop-member : goal.invariant-loop-member
invariant-loop-member l =
    is_one_of (names_of (map (λ m. (m.0.now, m.1)) l.members)) l.text
    ≡ is_one_of (names_of (map (λ m. (m.0.now, m.1)) (drop l.member-index l.members))) l.text
