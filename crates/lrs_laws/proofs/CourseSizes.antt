-- 32 bits number the nodes of each course that is taken up: below each node stands a unit, no deeper than the store takes.
use Rattle.std.proofs.Common.{◌≡◌, inl, inr, ℕ, zero, suc, ◌+◌, ◌*◌, ◌<◌, ◌≤◌, ◌^◌, List, [], ◌∷◌, ◌++◌, length, Bool, true, false, ◌&&◌, cond, codes, Option, Some, None, is_some, refl, sym, ap, subst, ◌∙◌, arith, length-append}
use Rattle.std.specs.Prelude.{count_by, filter, flat_map, if◌then◌else◌, is_none, nat_le, option_map}
use Rattle.std.specs.List.{AllByRecursion, list_all}
use Rattle.std.specs.Option.{option_map_or}
use Rattle.std.specs.Str.{bytes_eq}
use Rattle.std.specs.Cmp.{first_so, second_so}
use Rattle.std.proofs.lemmas.Bool.{false≢true, leb-true, or_cases}
use Rattle.std.proofs.lemmas.List.{length-map}
use Rattle.std.proofs.lemmas.List.Sums.{length-filter}
use Rattle.cmi5_course.proofs.Unbroken.{form_unbroken, more_unbroken, nodes_unbroken}
use Rattle.cmi5_course.specs.Courses.{course_of, node_of, nodes_of}
use Rattle.cmi5_course.specs.SpelledNodes.{SpelledNode, nodes_from, nodes_in, nodes_of_children, nodes_of_items, nodes_under, spelled_node}
use Rattle.cmi5_course.specs.Rules.{broken_rule, children_faults, content_faults, course_faults, form_faults, has_some_item, has_title, have_distinct_ids, id_faults, is_block, is_course, is_node, is_of_kind, is_unit, is_unit_node, is_within_limits, launch_faults, node_faults, nodes_faults, shared_faults, title_faults, unit_members}
use Rattle.lrs_agents.proofs.AgentLemmas.{is_met, none_left, none_right}
use Rattle.lrs_history.specs.Effects.{effect}
use Rattle.lrs_history.specs.History.{ComesNext, founds, is_operator, is_zero, state}
use Rattle.lrs_history.specs.Occasions.{Occasion, occasion}
use Rattle.lrs_history.specs.Refusals.{bad_form, barred_document, barred, conflict, missing, unmergeable}
use Rattle.lrs_json.specs.Find.{find, find_member}
use Rattle.lrs_json.specs.Json.{Json, null, boolean, number, string, array, object, Elements, no_elements, element, Members, no_members, member}
use Rattle.lrs_json.specs.View.{view}
use Rattle.lrs_json.specs.declared.tree.Tree.{Tree}
use Rattle.lrs_laws.proofs.Accepting.{accepted}
use Rattle.lrs_laws.proofs.Again.{no_reason}
use Rattle.lrs_laws.proofs.Counting.{many, many-append}
use Rattle.lrs_laws.proofs.CourseLaws.{MovesCourses, edition_up, moves_courses}
use Rattle.lrs_laws.proofs.Launched.{after_one}
use Rattle.lrs_laws.proofs.Lists.{each_front, each_push}
use Rattle.lrs_names.specs.Members.{faults_of_member, has_member, has_member_that, has_only}
use Rattle.lrs_names.specs.Rules.{least, unless}
use Rattle.lrs_state.specs.Editions.{SeenEdition, editions_after}
use Rattle.lrs_state.specs.State.{State}
use Rattle.lrs_state.specs.declared.effect.Effect.{Effect}
use Rattle.lrs_record.specs.Writes.{write_area}
use Rattle.lrs_record.specs.declared.entry.Entry.{Entry}
use Rattle.lrs_record.specs.declared.entry.Write.{Write}
use Rattle.lrs_record.specs.declared.entry.Write.TheVariants as write
use Rattle.lrs_replies.specs.declared.answered.Refusal.TheVariants.{Broken}
use Rattle.lrs_rules.specs.declared.rule.Rule.TheVariants as rule

-- ---- a node that breaks no rule

abbrev has_children : Json → Bool
has_children j = has_member_that (codes "children") has_some_item j

-- A unit, or a node that holds others; and it stands no deeper than the store takes.
record Stands (node : SpelledNode) : Type 0 where
  holds : is_unit_node node ≡ false → has_children node.value ≡ true
  shallow : node.depth ≤ 16

course_holds : (j : Json) → is_course j ≡ true → has_member (codes "children") j ≡ true
unfolding is_course
course_holds j is = second_so (has_only (codes "id" ∷ codes "title" ∷ codes "description" ∷ codes "children" ∷ []) j && has_title j) (has_member (codes "children") j) is

block_holds : (j : Json) → is_block j ≡ true → has_member (codes "children") j ≡ true
unfolding is_block
block_holds j is =
    second_so (is_of_kind (codes "block") j && has_only (codes "kind" ∷ codes "id" ∷ codes "title" ∷ codes "description" ∷ codes "children" ∷ []) j && has_title j) (has_member (codes "children") j) is

unit_kind : (j : Json) → is_unit j ≡ true → is_of_kind (codes "unit") j ≡ true
unfolding is_unit
unit_kind j is =
    first_so (is_of_kind (codes "unit") j) (has_only unit_members j) (first_so (is_of_kind (codes "unit") j && has_only unit_members j) (has_title j) (first_so
    (is_of_kind (codes "unit") j && has_only unit_members j && has_title j) (has_member (codes "url") j) is))

form_holds : (j : Json) (parent : Option ℕ) → least (if is_none parent then unless (is_course j) 1 else unless (is_node j) 2) ≡ None → is_of_kind (codes "unit") j ≡ false
    → has_member (codes "children") j ≡ true
form_holds j None none other = course_holds j (is_met (is_course j) 1 none)
form_holds j (Some p) none other =
    elim (or_cases (is_block j) (is_unit j) (is_met (is_node j) 2 none)) [ inl block ↦ block_holds j block | inr unit ↦ absurd (false≢true (sym other ∙ unit_kind j unit)) ]

children_unbroken : (j : Json) → least (shared_faults j) ≡ None → least (faults_of_member (codes "children") children_faults j) ≡ None
unfolding shared_faults
children_unbroken j none =
    none_right (faults_of_member (codes "id") id_faults j ++ faults_of_member (codes "title") title_faults j ++ faults_of_member (codes "description") title_faults j)
    (faults_of_member (codes "children") children_faults j) none

shared_unbroken : (node : SpelledNode) → least (node_faults node) ≡ None → least (shared_faults node.value) ≡ None
unfolding node_faults
shared_unbroken node none =
    let form : List ℕ = form_faults node in
    let shared : List ℕ = shared_faults node.value in
    none_right form shared (none_left (form ++ shared) (launch_faults node.value) (none_left (form ++ shared ++ launch_faults node.value) (content_faults node.value) none))

found_item : (o : Option Json) → is_some o ≡ true → least (option_map_or children_faults o []) ≡ None → option_map_or has_some_item o false ≡ true
found_item None there none = there
found_item (Some j) there none = is_met (has_some_item j) 5 none

node_stands : (node : SpelledNode) → least (node_faults node) ≡ None → nat_le node.depth 16 ≡ true → Stands node
node_stands node none low = record {
  holds = λ other. found_item (find (codes "children") node.value) (form_holds node.value node.parent (form_unbroken node none) other) (children_unbroken node.value (shared_unbroken node none));
  shallow = leb-true node.depth 16 low;
}

all_stand : (nodes : List SpelledNode) → least (flat_map node_faults nodes) ≡ None → list_all (λ (node : SpelledNode). nat_le node.depth 16) nodes ≡ true → AllByRecursion Stands nodes
all_stand [] none low = tt
all_stand (node ∷ nodes) none low =
    let both = more_unbroken node nodes none in
    let deep : Bool = list_all (λ (n : SpelledNode). nat_le n.depth 16) nodes in (
      node_stands node both.0 (first_so (nat_le node.depth 16) deep low),
      all_stand nodes both.1 (second_so (nat_le node.depth 16) deep low),
    )

-- ---- how many there are

-- No more for each unit than levels are left.
abbrev AreFew : ℕ → List SpelledNode → Type 0
AreFew levels nodes = length nodes ≤ levels * many is_unit_node nodes

each_behind : {A : Type 0} (P : A → Type 0) (xs ys : List A) → AllByRecursion P (xs ++ ys) → AllByRecursion P ys
each_behind P [] ys each = each
each_behind P (x ∷ xs) ys each = each_behind P xs ys each.1

few_both : (levels : ℕ) (here rest : List SpelledNode) → AreFew levels here → AreFew levels rest → AreFew levels (here ++ rest)
few_both levels here rest first later =
    let all : length (here ++ rest) ≡ length here + length rest = length-append here rest in
    let units : many is_unit_node (here ++ rest) ≡ many is_unit_node here + many is_unit_node rest = many-append is_unit_node here rest in
    let sum : length here + length rest ≤ levels * (many is_unit_node here + many is_unit_node rest) = omega (arith, first, later) in
    subst (λ n. n ≤ levels * many is_unit_node (here ++ rest)) (sym all) (subst (λ n. length here + length rest ≤ levels * n) (sym units) sum)

-- a level more, of one node
one_more : (n levels units : ℕ) → 1 ≤ n → n ≤ levels * units → suc n ≤ suc levels * units
one_more n levels zero some few = absurd (let none : n ≤ 0 = omega (arith, few) in omega (arith, none, some))
one_more n levels (suc u) some few = omega (arith, few)

one_unit : (n levels units : ℕ) → n ≤ levels * units → suc n ≤ suc levels * suc units
one_unit n levels units few = omega (arith, few)

few_at : (levels : ℕ) (node : SpelledNode) (below : List SpelledNode) → Stands node → node.depth + levels ≡ 17 → (has_children node.value ≡ true → 1 ≤ length below)
    → ((fewer : ℕ) → node.depth + 1 + fewer ≡ 17 → AreFew fewer below) → AreFew levels (node ∷ below)
few_at zero node below stands is some few = absurd (let low : node.depth ≤ 16 = stands.shallow in omega (arith, is, low))
few_at (suc levels) node below stands is some few = by_kind (is_unit_node node) refl
  where
    fewer : AreFew levels below
    fewer = few levels (omega (arith, is))

    by_kind : (b : Bool) → is_unit_node node ≡ b → suc (length below) ≤ suc levels * length (cond b (node ∷ filter is_unit_node below) (filter is_unit_node below))
    by_kind true unit = one_unit (length below) levels (many is_unit_node below) fewer
    by_kind false other = one_more (length below) levels (many is_unit_node below) (some (stands.holds other)) fewer

few_alone : (levels : ℕ) (node : SpelledNode) → Stands node → node.depth + levels ≡ 17 → has_children node.value ≡ false → AreFew levels (node ∷ [])
few_alone levels node stands is none =
    few_at levels node [] stands is (λ has. absurd (false≢true (sym none ∙ has))) (λ fewer at. let no_node : 0 ≤ fewer * 0 = omega arith in no_node)

-- ---- below a node with children stands another

one_from : (index : ℕ) (parent : Option ℕ) (depth : ℕ) (j : Json) → 1 ≤ length (nodes_from index parent depth j)
one_from index parent depth null = omega arith
one_from index parent depth (boolean b) = omega arith
one_from index parent depth (number s) = omega arith
one_from index parent depth (string s) = omega arith
one_from index parent depth (array js) = omega arith
one_from index parent depth (object ms) = omega arith

some_children : (next parent depth : ℕ) (j : Json) → has_some_item j ≡ true → 1 ≤ length (nodes_of_children next parent depth j)
some_children next parent depth null has = absurd (false≢true has)
some_children next parent depth (boolean b) has = absurd (false≢true has)
some_children next parent depth (number s) has = absurd (false≢true has)
some_children next parent depth (string s) has = absurd (false≢true has)
some_children next parent depth (array no_elements) has = absurd (false≢true has)
some_children next parent depth (array (element j js)) has =
    let here : List SpelledNode = nodes_from next (Some parent) depth j in
    let rest : List SpelledNode = nodes_of_items (next + length here) parent depth js in
    let all : length (here ++ rest) ≡ length here + length rest = length-append here rest in
    omega (arith, all, one_from next (Some parent) depth j)
some_children next parent depth (object ms) has = absurd (false≢true has)

some_under : (next parent depth : ℕ) (ms : Members) → has_children (object ms) ≡ true → 1 ≤ length (nodes_under next parent depth ms)
some_under next parent depth no_members has = absurd (false≢true has)
some_under next parent depth (member name j ms) has = by_name (bytes_eq name (codes "children")) has (λ later. some_under next parent depth ms later)
  where
    by_name : (b : Bool) → option_map_or has_some_item (if b then Some j else find_member (codes "children") ms) false ≡ true
        → (has_children (object ms) ≡ true → 1 ≤ length (nodes_under next parent depth ms))
        → 1 ≤ length (if b then nodes_of_children next parent depth j else nodes_under next parent depth ms)
    by_name true here more = some_children next parent depth j here
    by_name false other more = more other

-- ---- all nodes

few_of : (levels : ℕ) (b : Bool) (here other : List SpelledNode) → (AllByRecursion Stands here → AreFew levels here) → (AllByRecursion Stands other → AreFew levels other)
    → AllByRecursion Stands (if b then here else other) → AreFew levels (if b then here else other)
few_of levels true here other first next each = first each
few_of levels false here other first next each = next each

none_few : (levels : ℕ) → AreFew levels []
none_few levels = let none : 0 ≤ levels * 0 = omega arith in none

mutual
  few_from : (index : ℕ) (parent : Option ℕ) (depth levels : ℕ) (j : Json) → depth + levels ≡ 17 → AllByRecursion Stands (nodes_from index parent depth j) → AreFew levels (nodes_from index parent depth j)
  few_from index parent depth levels null is each = few_alone levels (spelled_node null parent depth) each.0 is refl
  few_from index parent depth levels (boolean b) is each = few_alone levels (spelled_node (boolean b) parent depth) each.0 is refl
  few_from index parent depth levels (number s) is each = few_alone levels (spelled_node (number s) parent depth) each.0 is refl
  few_from index parent depth levels (string s) is each = few_alone levels (spelled_node (string s) parent depth) each.0 is refl
  few_from index parent depth levels (array js) is each = few_alone levels (spelled_node (array js) parent depth) each.0 is refl
  few_from index parent depth levels (object ms) is each =
      few_at levels (spelled_node (object ms) parent depth) (nodes_under (index + 1) index (depth + 1) ms) each.0 is (some_under (index + 1) index (depth + 1) ms)
      (λ fewer at. few_under (index + 1) index (depth + 1) fewer ms at each.1)

  few_under : (next parent depth levels : ℕ) (ms : Members) → depth + levels ≡ 17 → AllByRecursion Stands (nodes_under next parent depth ms) → AreFew levels (nodes_under next parent depth ms)
  few_under next parent depth levels no_members is each = none_few levels
  few_under next parent depth levels (member name j ms) is each =
      few_of levels (bytes_eq name (codes "children")) (nodes_of_children next parent depth j) (nodes_under next parent depth ms) (few_children next parent depth levels j is)
      (few_under next parent depth levels ms is) each

  few_children : (next parent depth levels : ℕ) (j : Json) → depth + levels ≡ 17 → AllByRecursion Stands (nodes_of_children next parent depth j) → AreFew levels (nodes_of_children next parent depth j)
  few_children next parent depth levels null is each = none_few levels
  few_children next parent depth levels (boolean b) is each = none_few levels
  few_children next parent depth levels (number s) is each = none_few levels
  few_children next parent depth levels (string s) is each = none_few levels
  few_children next parent depth levels (array js) is each = few_items next parent depth levels js is each
  few_children next parent depth levels (object ms) is each = none_few levels

  few_items : (next parent depth levels : ℕ) (js : Elements) → depth + levels ≡ 17 → AllByRecursion Stands (nodes_of_items next parent depth js) → AreFew levels (nodes_of_items next parent depth js)
  few_items next parent depth levels no_elements is each = none_few levels
  few_items next parent depth levels (element j js) is each =
      let here : List SpelledNode = nodes_from next (Some parent) depth j in
      let rest : List SpelledNode = nodes_of_items (next + length here) parent depth js in
      few_both levels here rest (few_from next (Some parent) depth levels j is (each_front Stands here rest each))
      (few_items (next + length here) parent depth levels js is (each_behind Stands here rest each))

-- ---- a course

within_limits : (j : Json) → broken_rule j ≡ None → is_within_limits (nodes_in j) ≡ true
unfolding broken_rule course_faults nodes_faults
within_limits j none = is_met (is_within_limits (nodes_in j)) 12 (none_right (flat_map node_faults (nodes_in j) ++ unless (have_distinct_ids (nodes_in j)) 6) (unless (is_within_limits (nodes_in j)) 12) none)

few_nodes : (j : Json) → broken_rule j ≡ None → length (nodes_in j) < 2 ^ 32
unfolding is_within_limits nodes_in
few_nodes j none =
    let all : List SpelledNode = nodes_in j in
    let deep : Bool = list_all (λ (node : SpelledNode). nat_le node.depth 16) all in
    let limits : nat_le (count_by is_unit_node all) 1000 && deep ≡ true = within_limits j none in
    let units : count_by is_unit_node all ≤ 1000 = leb-true (count_by is_unit_node all) 1000 (first_so (nat_le (count_by is_unit_node all) 1000) deep limits) in
    let same : many is_unit_node all ≡ count_by is_unit_node all = length-filter is_unit_node all in
    let few : length all ≤ 17 * many is_unit_node all =
    few_from 0 None 0 17 j refl (all_stand all (nodes_unbroken j all refl none) (second_so (nat_le (count_by is_unit_node all) 1000) deep limits)) in
    omega (arith, units, same, few)

course_numbered : (tree : Tree) → broken_rule (view tree) ≡ None → length (course_of tree).nodes < 2 ^ 32
unfolding nodes_of
course_numbered tree none = subst (λ n. n < 2 ^ 32) (sym (length-map (nodes_in (view tree)) node_of)) (few_nodes (view tree) none)

-- ---- those of a history

abbrev pub IsNumbered : SeenEdition → Type 0
IsNumbered edition = length edition.course.nodes < 2 ^ 32

abbrev pub AreNumbered : List SeenEdition → Type 0
AreNumbered editions = AllByRecursion IsNumbered editions

none_refused : (o : Option ℕ) → option_map (λ n. Broken (rule.K n)) o ≡ None → o ≡ None
none_refused None is = refl
none_refused (Some n) is = cc is

-- a course that comes next breaks no rule
unbroken : (limit : ℕ) (h : List Entry) (e : Entry) → ComesNext limit h e → (tree : Tree) → e.write ≡ write.Course tree → broken_rule (view tree) ≡ None
unbroken limit [] e next tree is =
    let founding : founds (write.Course tree) ≡ true = sym (ap founds is) ∙ second_so (is_operator e.caller && is_zero e.draw) (founds e.write) next in
    absurd (false≢true founding)
unbroken limit (first ∷ more) e next tree is =
    let st : State = state (first ∷ more) in
    let at : Occasion = occasion st e in
    let free = no_reason (barred (write_area e.write) at.by ∷ bad_form e.write ∷ barred_document st at.by e.write ∷ missing st e.write ∷ unmergeable st e.write ∷ conflict st at e.write ∷ [])
    (accepted limit (first ∷ more) e next).free in
    none_refused (broken_rule (view tree)) (sym (ap bad_form is) ∙ free.1.0)

numbered_with : (st : State) (w : Write) (x : Effect) → MovesCourses st w x → ((tree : Tree) → w ≡ write.Course tree → broken_rule (view tree) ≡ None) → AreNumbered st.editions
    → AreNumbered (editions_after st.editions x.editions)
numbered_with st w x (inl quiet) free each = subst (λ c. AreNumbered (editions_after st.editions c)) (sym quiet.editions) each
numbered_with st w x (inr takes) free each =
    subst (λ c. AreNumbered (editions_after st.editions c)) (sym takes.editions)
    (each_push IsNumbered st.editions (edition_up st takes.tree) each (course_numbered takes.tree (free takes.tree takes.write)))

-- those behind an entry are numbered where those before it are
pub numbered_after : (limit : ℕ) (h : List Entry) (e : Entry) → ComesNext limit h e → AreNumbered (state h).editions → AreNumbered (state (h ++ e ∷ [])).editions
numbered_after limit h e next each =
    subst (λ (su : State). AreNumbered su.editions) (sym (after_one h e))
    (numbered_with (state h) e.write (effect (state h) e) (moves_courses (state h) (occasion (state h) e) e.write) (unbroken limit h e next) each)
