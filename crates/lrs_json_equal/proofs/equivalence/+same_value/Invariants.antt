use Rattle.std.proofs.Common.{◌≡◌, ℕ, List, length, drop, map}
use Rattle.lrs_json.specs.View.{view, member_view, elements_of, members_of}
use Rattle.lrs_json.specs.Fits.{FitElements, FitMembers}
use Rattle.lrs_json_equal.specs.SameValue.{same_elements, same_members}
use Rattle.lrs_json_equal.proofs.equivalence.+same_value.Given as goal

-- the lists have the same values exactly where what is left of them has
abbrev pub invariant-have_same_values-loop-x : goal.invariant-have_same_values-loop-x
invariant-have_same_values-loop-x l =
    let xs = l.x-iterator.a.rest.now in
    let ys = l.x-iterator.b.rest.now in
    (same_elements (elements_of (map view l.a)) (elements_of (map view l.b)) ≡ same_elements (elements_of (map view xs)) (elements_of (map view ys)))
    × FitElements (elements_of (map view xs)) × FitElements (elements_of (map view ys)) × (length xs ≡ length ys)

abbrev pub invariant-few_have_same_values-loop-member : goal.invariant-few_have_same_values-loop-member
invariant-few_have_same_values-loop-member l =
    let ns = members_of (map member_view l.b) in
    (same_members (members_of (map member_view l.a)) ns ≡ same_members (members_of (map member_view (drop l.member-index l.a))) ns)
    × ((names : List (List ℕ)) × FitMembers names (members_of (map member_view (drop l.member-index l.a))))

abbrev pub invariant-many_have_same_values-loop-member : goal.invariant-many_have_same_values-loop-member
invariant-many_have_same_values-loop-member l =
    let ns = members_of (map member_view l.b) in
    (same_members (members_of (map member_view l.a)) ns ≡ same_members (members_of (map member_view (drop l.member-index l.a))) ns)
    × ((names : List (List ℕ)) × FitMembers names (members_of (map member_view (drop l.member-index l.a))))
