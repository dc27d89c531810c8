use Rattle.std.proofs.Common.{◌≡◌, drop, map}
use Rattle.lrs_json.specs.View.{member_view, members_of}
use Rattle.xapi_alike.specs.Steps.{has_member_named}
use Rattle.xapi_alike.proofs.alike.has_member_named.Given as goal

abbrev pub invariant-loop-member : goal.invariant-loop-member
invariant-loop-member l = has_member_named l.name (members_of (map member_view l.members)) ≡ has_member_named l.name (members_of (map member_view (drop l.member-index l.members)))
