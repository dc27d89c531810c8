use Rattle.std.proofs.Common.{◌≡◌, drop, map}
use Rattle.lrs_json.specs.View.{member_view, members_of}
use Rattle.lrs_names.specs.Members.{are_named_by}
use Rattle.lrs_names.proofs.members.are_named_by.Given as goal

abbrev pub invariant-loop-member : goal.invariant-loop-member
invariant-loop-member l =
    are_named_by (map (λ name. name.now) l.names) (members_of (map member_view l.members))
    ≡ are_named_by (map (λ name. name.now) l.names) (members_of (map member_view (drop l.member-index l.members)))
