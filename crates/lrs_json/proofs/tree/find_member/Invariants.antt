use Rattle.std.proofs.Common.{◌≡◌, drop, map}
use Rattle.lrs_json.specs.View.{member_view, members_of}
use Rattle.lrs_json.specs.Find.{find_member}
use Rattle.lrs_json.proofs.tree.find_member.Given as goal

-- none of the members so far has the name
abbrev pub invariant-loop-member : goal.invariant-loop-member
invariant-loop-member l = find_member l.name (members_of (map member_view l.members)) ≡ find_member l.name (members_of (map member_view (drop l.member-index l.members)))
