use Rattle.std.proofs.Common.{◌≡◌, map}
use Rattle.std.specs.Vec.Iter.{into_iter_items}
use Rattle.lrs_json.specs.View.{member_view, members_of}
use Rattle.xapi_values.specs.Following.{followed_by}
use Rattle.xapi_values.specs.Memberwise.{each_member}
use Rattle.xapi_format.proofs.plural.made_members.Given as goal

-- what was made so far, and what is left
abbrev pub invariant-loop-member : goal.invariant-loop-member
invariant-loop-member g l =
    each_member g.P.Plural.change (members_of (map member_view l.fn.members))
    ≡ followed_by (members_of (map member_view l.built)) (each_member g.P.Plural.change (members_of (map member_view (into_iter_items l.member-iterator))))
