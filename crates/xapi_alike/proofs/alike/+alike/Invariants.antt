use Rattle.std.proofs.Common.{◌≡◌, ◌+◌, ◌≤◌, length, drop, map}
use Rattle.lrs_json.specs.View.{view, member_view, elements_of, members_of}
use Rattle.xapi_alike.specs.Normal.{normal, normal_items, normal_members}
use Rattle.xapi_alike.specs.Alike.{alike, all_alike, as_often, count, named_alike}
use Rattle.xapi_alike.specs.Steps.{any_alike}
use Rattle.xapi_alike.proofs.Ranking.{Ranked}
use Rattle.xapi_alike.proofs.alike.+alike.Given as goal

abbrev pub invariant-items_are_alike-loop-x : goal.invariant-items_are_alike-loop-x
invariant-items_are_alike-loop-x l =
    let xs = l.x-iterator.a.rest.now in
    let ys = l.x-iterator.b.rest.now in
    (all_alike (normal_items l.role (elements_of (map view l.a))) (normal_items l.role (elements_of (map view l.b)))
    ≡ all_alike (normal_items l.role (elements_of (map view xs))) (normal_items l.role (elements_of (map view ys))))
    × (length xs ≡ length ys)

abbrev pub invariant-each_occurs_as_often-loop-item : goal.invariant-each_occurs_as_often-loop-item
invariant-each_occurs_as_often-loop-item l =
    let xs = normal_items l.role (elements_of (map view l.a)) in
    let ys = normal_items l.role (elements_of (map view l.b)) in
    as_often (normal_items l.role (elements_of (map view l.items))) xs ys ≡ as_often (normal_items l.role (elements_of (map view (drop l.item-index l.items)))) xs ys

abbrev pub invariant-count_alike-loop-other : goal.invariant-count_alike-loop-other
invariant-count_alike-loop-other l =
    let test = alike (normal l.role (view l.item)) in
    (l.found + count test (normal_items l.role (elements_of (map view (drop l.other-index l.items))))
    ≡ count test (normal_items l.role (elements_of (map view l.items))))
    × (l.found ≤ l.other-index)

abbrev pub invariant-few_are_alike-loop-member : goal.invariant-few_are_alike-loop-member
invariant-few_are_alike-loop-member l =
    let ns = normal_members l.role (members_of (map member_view l.b)) in
    named_alike (normal_members l.role (members_of (map member_view l.a))) ns
    ≡ named_alike (normal_members l.role (members_of (map member_view (drop l.member-index l.a)))) ns

abbrev pub invariant-many_are_alike-loop-member : goal.invariant-many_are_alike-loop-member
invariant-many_are_alike-loop-member l =
    let ns = normal_members l.role (members_of (map member_view l.b)) in
    named_alike (normal_members l.role (members_of (map member_view l.a))) ns
    ≡ named_alike (normal_members l.role (members_of (map member_view (drop l.member-index l.a)))) ns

abbrev pub invariant-any_is_alike-loop-member : goal.invariant-any_is_alike-loop-member
invariant-any_is_alike-loop-member l =
    any_alike l.role l.name (view l.value) (members_of (map member_view l.members)) ≡ any_alike l.role l.name (view l.value) (members_of (map member_view (drop l.member-index l.members)))

abbrev pub invariant-are_alike_by_rank-loop-i : goal.invariant-are_alike_by_rank-loop-i
invariant-are_alike_by_rank-loop-i l = Ranked l.role l.a l.b l.i-iterator.a.rest.now l.i-iterator.b.rest.now
