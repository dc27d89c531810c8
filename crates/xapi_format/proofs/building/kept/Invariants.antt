use Rattle.std.proofs.Common.{◌≡◌, map}
use Rattle.std.specs.Vec.Iter.{into_iter_items}
use Rattle.lrs_json.specs.Json.{Members}
use Rattle.lrs_json.specs.View.{member_view, members_of}
use Rattle.xapi_format.specs.Completed.{kept_before}
use Rattle.xapi_values.specs.Following.{followed_by}
use Rattle.xapi_format.proofs.building.kept.Given as goal

-- what was kept so far, and what is left, for every list after
abbrev pub invariant-loop-part : goal.invariant-loop-part
invariant-loop-part l =
    (behind : Members) → kept_before (members_of (map member_view l.fn.members)) behind
    ≡ followed_by (members_of (map member_view l.built)) (kept_before (members_of (map member_view (into_iter_items l.part-iterator))) behind)
