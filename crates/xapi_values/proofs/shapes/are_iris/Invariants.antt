use Rattle.std.proofs.Common.{◌≡◌, drop, map}
use Rattle.lrs_json.specs.View.{member_view, members_of}
use Rattle.xapi_values.specs.Shapes.{are_iris}
use Rattle.xapi_values.proofs.shapes.are_iris.Given as goal

abbrev pub invariant-loop-member : goal.invariant-loop-member
invariant-loop-member l = are_iris (members_of (map member_view l.members)) ≡ are_iris (members_of (map member_view (drop l.member-index l.members)))
