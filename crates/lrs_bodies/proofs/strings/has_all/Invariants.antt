use Rattle.std.proofs.Common.{◌≡◌, drop, map}
use Rattle.std.specs.List.{list_all}
use Rattle.lrs_json.specs.View.{view}
use Rattle.lrs_names.specs.Members.{has_member}
use Rattle.lrs_bodies.specs.Bodies.{names_of}
use Rattle.lrs_bodies.proofs.strings.has_all.Given as goal

abbrev pub invariant-loop-member : goal.invariant-loop-member
invariant-loop-member l =
    list_all (λ name. has_member name (view l.tree)) (names_of (map (λ m. (m.0.now, m.1)) l.members))
    ≡ list_all (λ name. has_member name (view l.tree)) (names_of (map (λ m. (m.0.now, m.1)) (drop l.member-index l.members)))
