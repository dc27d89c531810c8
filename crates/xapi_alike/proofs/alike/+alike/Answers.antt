use Rattle.std.proofs.Common.{◌≡◌, ◌⊎◌, inl, inr, ◌≤◌, ℕ, List, [], ◌∷◌, length, true, false, map, refl, sym, ap, ◌∙◌, subst, rules}
use Rattle.std.proofs.lemmas.Iterator.{empty_from_Zip}
use Rattle.std.proofs.lemmas.List.{length-map}
use Rattle.std.proofs.lemmas.Slice.Zip.{Zip-more}
use Rattle.std.proofs.lemmas.Option.{slice_get_read}
use Rattle.std.specs.List.Sorted.{IsPermutation}
use Rattle.std.specs.Str.{bytes_eq}
use Rattle.lrs_json.specs.Json.{array, object}
use Rattle.lrs_json.specs.View.{view, member_view, elements_of, members_of}
use Rattle.lrs_json.specs.declared.tree.Tree.{Tree, the_lemmas}
use Rattle.xapi_alike.specs.declared.role.Role.{Role}
use Rattle.xapi_alike.specs.Normal.{Normals, normal, normal_one, normal_items, normal_members}
use Rattle.xapi_alike.specs.Alike.{alike, same_bag}
use Rattle.xapi_alike.specs.Steps.{any_alike}
use Rattle.xapi_alike.specs.Ranks.{indices_to}
use Rattle.xapi_alike.proofs.Ranking.{Ranked, ranked_first, ranked_next, ranked_last, told_apart}
use Rattle.xapi_alike.proofs.Bags.{bag_refl}
use Rattle.xapi_alike.proofs.Walks.{lengths_differ, sizes_differ, sizes_agree, too_many, too_few, any_behind, any_in_front, within, named_on, named_off, often_on, all_done, any_off, any_hit, is_activities, array_and_object, object_and_array}
use Rattle.xapi_alike.proofs.alike.+alike.Goals.{any_is_alike-else-eq-via-then-eq+else-are_alike, any_is_alike-else-eq-via-else-eq}
use Rattle.xapi_alike.proofs.alike.+alike.Goals as goal

pub items_are_alike-returns-then-a-b : goal.items_are_alike-returns-then-a-b
items_are_alike-returns-then-a-b t c =
    lengths_differ c.args.role (map view c.args.a.now) (map view c.args.b.now) (λ e. c.if-a-b.true (sym (length-map c.args.a.now view) ∙ e ∙ length-map c.args.b.now view))

pub bags_are_alike-returns-then-a-b : goal.bags_are_alike-returns-then-a-b
bags_are_alike-returns-then-a-b t c =
    sizes_differ c.args.role (map view c.args.a.now) (map view c.args.b.now) (λ e. c.if-a-b.true (sym (length-map c.args.a.now view) ∙ e ∙ length-map c.args.b.now view))

pub bags_are_alike-returns-in-None : goal.bags_are_alike-returns-in-None
bags_are_alike-returns-in-None t c =
    sizes_agree c.args.role (map view c.args.a.now) (map view c.args.b.now) c.each_occurs_as_often.result
    (length-map c.args.a.now view ∙ c.if-a-b.false ∙ sym (length-map c.args.b.now view)) c.each_occurs_as_often.ensures

pub bags_are_alike-returns-then-are_identical : goal.bags_are_alike-returns-then-are_identical
bags_are_alike-returns-then-are_identical t c =
    let bag : List Tree → Normals = λ ts. normal_items c.args.role (elements_of (map view ts)) in
    let one : c.args.a.now ≡ c.args.b.now = search rules in
    sym (bag_refl (bag c.args.a.now)) ∙ ap (λ (ts : List Tree). same_bag (bag c.args.a.now) (bag ts)) one

pub are_alike-returns-in-List-Object : goal.are_alike-returns-in-List-Object
are_alike-returns-in-List-Object t c =
    let seen : view c.args.a.now ≡ array (elements_of (map view c.as_slice.result.now)) = search (rules, the_lemmas) in
    let other : view c.args.b.now ≡ object (members_of (map member_view c.in-List-Object.field-0-1)) = search (rules, the_lemmas) in
    let here = is_activities c.args.role (search rules) in
    c.only_is_alike.ensures
    ∙ rw (here, other, seen) (array_and_object (elements_of (map view c.as_slice.result.now)) (members_of (map member_view c.in-List-Object.field-0-1)))

pub are_alike-returns-in-Object-List : goal.are_alike-returns-in-Object-List
are_alike-returns-in-Object-List t c =
    let seen : view c.args.b.now ≡ array (elements_of (map view c.as_slice-in-Object-List.result.now)) = search (rules, the_lemmas) in
    let other : view c.args.a.now ≡ object (members_of (map member_view c.in-Object-List.field-0-0)) = search (rules, the_lemmas) in
    let here = is_activities c.args.role (search rules) in
    c.is_alike_to_only.ensures
    ∙ rw (here, other, seen) (object_and_array (members_of (map member_view c.in-Object-List.field-0-0)) (elements_of (map view c.as_slice-in-Object-List.result.now)))

pub is_alike_within-returns : goal.is_alike_within-returns
is_alike_within-returns t c =
    let key = c.as_str-name.result.now in
    let ms = members_of (map member_view c.args.members.now) in
    let seen : (member_view c.args.member.now).1 ≡ view c.args.member.now.value = search (rules, the_lemmas) in
    let name : (member_view c.args.member.now).0 ≡ key = search (rules, the_lemmas) in
    c.any_is_alike_from.ensures ∙ (ap (λ (p : Role). any_alike p key (view c.args.member.now.value) ms) c.of_member.ensures ∙ rw (seen, name) (within c.args.role key (view c.args.member.now.value) ms (search rules)))

pub any_is_alike_from-returns-then-any_is_alike : goal.any_is_alike_from-returns-then-any_is_alike
any_is_alike_from-returns-then-any_is_alike t c =
    any_behind c.args.role c.args.name.now (view c.args.value.now) c.args.members.now _ _ c.any_is_alike.result c.split_at.ensures.back c.any_is_alike.ensures (search rules)

pub any_is_alike_from-returns-else-any_is_alike : goal.any_is_alike_from-returns-else-any_is_alike
any_is_alike_from-returns-else-any_is_alike t c =
    any_in_front c.args.role c.args.name.now (view c.args.value.now) c.args.members.now _ _ _ c.any_is_alike.result c.any_is_alike-else-any_is_alike.result c.split_at.ensures.front c.split_at.ensures.back
    c.any_is_alike.ensures (search rules) c.any_is_alike-else-any_is_alike.ensures

pub only_is_alike-returns-in-len2-up : goal.only_is_alike-returns-in-len2-up
only_is_alike-returns-in-len2-up t c =
    too_many (normal_one Role.Activity (view c.args.b.now)) (map view c.args.items.now) Role.Activity (subst (λ (n : ℕ). 2 ≤ n) (sym (length-map c.args.items.now view)) c.in-len2-up.len_at_least)

pub is_alike_to_only-returns-in-len2-up : goal.is_alike_to_only-returns-in-len2-up
is_alike_to_only-returns-in-len2-up t c =
    too_few (normal_one Role.Activity (view c.args.a.now)) (map view c.args.items.now) Role.Activity (subst (λ (n : ℕ). 2 ≤ n) (sym (length-map c.args.items.now view)) c.in-len2-up.len_at_least)

pub few_are_alike-loop-member-preserved : goal.few_are_alike-loop-member-preserved
few_are_alike-loop-member-preserved t c =
    c.loop-member.invariant
    ∙ named_on c.args.role c.args.a.now c.loop-member.member-index c.member-item.result (normal_members c.args.role (members_of (map member_view c.args.b.now))) c.is_alike_within.result
    c.loop-member-test.true c.member-item.is c.is_alike_within.ensures (search rules)

pub many_are_alike-loop-member-preserved : goal.many_are_alike-loop-member-preserved
many_are_alike-loop-member-preserved t c =
    c.loop-member.invariant
    ∙ named_on c.args.role c.args.a.now c.loop-member.member-index c.member-item.result (normal_members c.args.role (members_of (map member_view c.args.b.now))) c.is_alike_within.result
    c.loop-member-test.true c.member-item.is c.is_alike_within.ensures (search rules)

pub few_are_alike-returns-then-not-is_alike_within : goal.few_are_alike-returns-then-not-is_alike_within
few_are_alike-returns-then-not-is_alike_within t c =
    sym (c.loop-member.invariant
    ∙ named_off c.args.role c.args.a.now c.loop-member.member-index c.member-item.result (normal_members c.args.role (members_of (map member_view c.args.b.now))) c.is_alike_within.result
    c.loop-member-test.true c.member-item.is c.is_alike_within.ensures (search rules))

pub many_are_alike-returns-then-not-is_alike_within : goal.many_are_alike-returns-then-not-is_alike_within
many_are_alike-returns-then-not-is_alike_within t c =
    sym (c.loop-member.invariant
    ∙ named_off c.args.role c.args.a.now c.loop-member.member-index c.member-item.result (normal_members c.args.role (members_of (map member_view c.args.b.now))) c.is_alike_within.result
    c.loop-member-test.true c.member-item.is c.is_alike_within.ensures (search rules))

pub each_occurs_as_often-loop-item-preserved : goal.each_occurs_as_often-loop-item-preserved
each_occurs_as_often-loop-item-preserved t c =
    let bag : List Tree → Normals = λ ts. normal_items c.args.role (elements_of (map view ts)) in
    c.loop-item.invariant
    ∙ often_on c.args.role c.args.items.now c.loop-item.item-index c.item-item.result (bag c.args.a.now) (bag c.args.b.now) c.occurs_as_often.result
    c.loop-item-test.true c.item-item.is c.occurs_as_often.ensures (search rules)

pub items_are_alike-returns : goal.items_are_alike-returns
items_are_alike-returns t c =
    let ends = empty_from_Zip c.loop-x.x-iterator c.next.new.self c.next.result c.in-None.is c.next.ensures.steps c.loop-x.invariant.1 in
    sym (c.loop-x.invariant.0 ∙ all_done c.args.role c.loop-x.x-iterator.a.rest.now c.loop-x.x-iterator.b.rest.now ends.0 ends.1)

pub any_is_alike-loop-member-preserved : goal.any_is_alike-loop-member-preserved
any_is_alike-loop-member-preserved t c =
    let m = c.member-item.result in
    let name : (member_view m).0 ≡ c.as_str.result.now = search (rules, the_lemmas) in
    let value : (member_view m).1 ≡ view m.value = search (rules, the_lemmas) in
    let missed : (bytes_eq c.as_str.result.now c.args.name.now ≡ false) ⊎ (alike (normal c.args.role (view c.args.value.now)) (normal c.args.role (view m.value)) ≡ false) = elim c.else-eq.branch [
      | any_is_alike-else-eq-via-then-eq+else-are_alike w ↦ inr (sym w.are_alike.ensures ∙ w.if-are_alike.false)
      | any_is_alike-else-eq-via-else-eq w ↦ inl (sym c.eq.ensures ∙ w.if-eq.false)
    ] in
    c.loop-member.invariant
    ∙ any_off c.args.role c.args.name.now (view c.args.value.now) c.args.members.now c.loop-member.member-index m _ _ c.loop-member-test.true c.member-item.is name value missed

pub any_is_alike-returns-then-are_alike : goal.any_is_alike-returns-then-are_alike
any_is_alike-returns-then-are_alike t c =
    let m = c.member-item.result in
    let name : (member_view m).0 ≡ c.as_str.result.now = search (rules, the_lemmas) in
    let value : (member_view m).1 ≡ view m.value = search (rules, the_lemmas) in
    sym (c.loop-member.invariant
    ∙ any_hit c.args.role c.args.name.now (view c.args.value.now) c.args.members.now c.loop-member.member-index m _ _ c.loop-member-test.true c.member-item.is name value
    (sym c.eq.ensures ∙ c.if-eq.true) (sym c.are_alike.ensures ∙ c.if-are_alike.true))

pub is_told_apart-returns-else-occurs_as_often : goal.is_told_apart-returns-else-occurs_as_often
is_told_apart-returns-else-occurs_as_often t c =
    let there = slice_get_read c.args.a.now (length c.args.a.now) c.args.at c.in_ok-item.item.now refl (search rules) (search rules) in
    let differs : c.occurs_as_often.result ≡ false = search rules in
    told_apart c.args.role c.args.a.now c.args.b.now c.args.at c.in_ok-item.item.now there (sym c.occurs_as_often.ensures ∙ differs)

pub are_alike_by_rank-loop-i-init : goal.are_alike_by_rank-loop-i-init
are_alike_by_rank-loop-i-init t c =
    let is = c.into_iter-i-iterator.result.a.rest.now in
    let js = c.into_iter-i-iterator.result.b.rest.now in
    let left : is ≡ c.args.left.now = search rules in
    let right : js ≡ c.args.right.now = search rules in
    ranked_first c.args.role c.args.a.now c.args.b.now is js c.requires.as_many
    (subst (λ (ns : List ℕ). IsPermutation (indices_to (length c.args.a.now)) ns) (sym left) c.requires.ranked_left)
    (subst (λ (ns : List ℕ). IsPermutation (indices_to (length c.args.b.now)) ns) (sym right) c.requires.ranked_right)

pub are_alike_by_rank-loop-i-preserved : goal.are_alike_by_rank-loop-i-preserved
are_alike_by_rank-loop-i-preserved t c =
    let is = c.next.new.self.a.rest.now in
    let js = c.next.new.self.b.rest.now in
    let more = Zip-more c.loop-i.i-iterator c.next.new.self c.next.result (c.in-Some.i, c.in-Some.j) c.in-Some.is c.next.ensures.steps in
    let left : c.loop-i.i-iterator.a.rest.now ≡ c.in-Some.i.now ∷ is = more.0 in
    let right : c.loop-i.i-iterator.b.rest.now ≡ c.in-Some.j.now ∷ js = more.1 in
    let x = slice_get_read c.args.a.now (length c.args.a.now) c.in-Some.i.now c.in-Some-Some.x.now refl (search rules) (search rules) in
    let y = slice_get_read c.args.b.now (length c.args.b.now) c.in-Some.j.now c.in-Some-Some.y.now refl (search rules) (search rules) in
    let yes : c.are_alike.result ≡ true = search rules in
    ranked_next c.args.role c.args.a.now c.args.b.now c.in-Some.i.now c.in-Some.j.now is js c.in-Some-Some.x.now c.in-Some-Some.y.now x y c.requires.own_left c.requires.own_right (sym c.are_alike.ensures ∙ yes)
    (subst (λ (ns : List ℕ). Ranked c.args.role c.args.a.now c.args.b.now ns (c.in-Some.j.now ∷ js)) left
    (subst (λ (ns : List ℕ). Ranked c.args.role c.args.a.now c.args.b.now c.loop-i.i-iterator.a.rest.now ns) right c.loop-i.invariant))

pub are_alike_by_rank-returns : goal.are_alike_by_rank-returns
are_alike_by_rank-returns t c =
    let ends = empty_from_Zip c.loop-i.i-iterator c.next.new.self c.next.result c.in-None.is c.next.ensures.steps c.loop-i.invariant.0 in
    let left : c.loop-i.i-iterator.a.rest.now ≡ [] = ends.0 in
    let right : c.loop-i.i-iterator.b.rest.now ≡ [] = ends.1 in
    λ e. sym (ranked_last c.args.role c.args.a.now c.args.b.now c.requires.as_many c.requires.own_left
    (subst (λ (ns : List ℕ). Ranked c.args.role c.args.a.now c.args.b.now ns []) left (subst (λ (ns : List ℕ). Ranked c.args.role c.args.a.now c.args.b.now c.loop-i.i-iterator.a.rest.now ns) right c.loop-i.invariant)))
