use Rattle.std.proofs.Common.{◌≡◌, ◌++◌, map}
use Rattle.std.specs.Vec.Iter.{into_iter_items}
use Rattle.lrs_json.specs.View.{member_view, members_of}
use Rattle.xapi_docs.specs.Merging.{HasIndices, with_members}
use Rattle.xapi_docs.proofs.merging.put_members.Given as goal

-- what the members so far made of those that were held, with their indices, and what is left
abbrev pub invariant-loop-member : goal.invariant-loop-member
invariant-loop-member l =
    (members_of (map member_view l.held.items) ≡ with_members (members_of (map member_view l.fn.held.items)) (members_of (map member_view l.yielded)))
    × HasIndices l.indices (members_of (map member_view l.held.items)) × (l.fn.members.items ≡ l.yielded ++ into_iter_items l.member-iterator)
