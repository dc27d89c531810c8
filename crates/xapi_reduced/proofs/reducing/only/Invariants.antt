use Rattle.std.proofs.Common.{◌≡◌, map}
use Rattle.std.specs.Vec.Iter.{into_iter_items}
use Rattle.lrs_json.specs.View.{member_view, members_of}
use Rattle.xapi_values.specs.Following.{followed_by}
use Rattle.xapi_reduced.specs.Reduced.{only}
use Rattle.xapi_reduced.proofs.reducing.only.Given as goal

-- what was kept so far, and what is left
abbrev pub invariant-loop-member : goal.invariant-loop-member
invariant-loop-member l =
    only (map (λ name. name.now) l.fn.names) (members_of (map member_view l.fn.members))
    ≡ followed_by (members_of (map member_view l.built)) (only (map (λ name. name.now) l.fn.names) (members_of (map member_view (into_iter_items l.member-iterator))))
