use Rattle.std.proofs.Common.{◌≡◌, drop, map}
use Rattle.lrs_json.specs.View.{member_view, members_of}
use Rattle.xapi_alike.specs.Normal.{normal_members}
use Rattle.xapi_alike.specs.Alike.{are_named}
use Rattle.xapi_alike.proofs.alike.are_named.Given as goal

abbrev pub invariant-loop-member : goal.invariant-loop-member
invariant-loop-member l =
    let ns = normal_members l.role (members_of (map member_view l.b)) in
    are_named (normal_members l.role (members_of (map member_view l.a))) ns
    ≡ are_named (normal_members l.role (members_of (map member_view (drop l.member-index l.a)))) ns
