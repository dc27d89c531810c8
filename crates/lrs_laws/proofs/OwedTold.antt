-- What is owed is told: behind it nothing more is owed.
use Rattle.std.proofs.Common.{◌≡◌, ◌⊎◌, inl, inr, ℕ, zero, suc, ◌+◌, ◌<◌, ◌≤◌, List, [], ◌∷◌, ◌++◌, length, Bool, true, false, not, ◌&&◌, ◌||◌, cond, Option, Some, None, refl, sym, ap, subst, ◌∙◌, arith, true≢false}
use Rattle.std.specs.Prelude.{◌==◌, filter, filter_map, option_map}
use Rattle.std.specs.List.{cons_option, list_any, range_with_len}
use Rattle.std.specs.Str.{bytes_eq}
use Rattle.std.specs.Cmp.{second_so}
use Rattle.std.proofs.lemmas.Bool.{and_from, cases_eq, eq-eqb, false_from_ne_true, ne_eqb, not-true, or_right}
use Rattle.std.proofs.lemmas.Cmp.{nat_list_eq_equiv}
use Rattle.std.proofs.lemmas.List.Folds.{list_any-append}
use Rattle.std.proofs.lemmas.List.FromFn.{length-range_with_len}
use Rattle.cmi5_course.specs.Courses.{node_at}
use Rattle.cmi5_course.specs.declared.course.Node.{Node}
use Rattle.cmi5_launch.specs.Made.{said_satisfied}
use Rattle.cmi5_launch.specs.Names.{satisfied}
use Rattle.cmi5_session.specs.Counting.{counts}
use Rattle.cmi5_session.specs.Own.{is_cmi5_defined, says}
use Rattle.cmi5_verdict.proofs.Depths.{outward_short}
use Rattle.cmi5_verdict.specs.Nodes.{SeenEnrolment, activity_of_node, at_depth, depth_of, from_depth, is_owed, is_satisfied, is_unit_in, outward, owed, indices}
use Rattle.cmi5_verdict.specs.Units.{counts_among, was_said}
use Rattle.lrs_history.specs.Enrolments.{Enrolled, enrolment_of}
use Rattle.lrs_history.specs.Made.{made_under, satisfied_at, satisfied_json}
use Rattle.lrs_ids.specs.Ids.{Supply, rest_of}
use Rattle.lrs_json.proofs.SeenTrees.{seen_tree}
use Rattle.lrs_json.specs.Json.{Json}
use Rattle.lrs_json.specs.Trees.{tree_of}
use Rattle.lrs_json.specs.View.{view}
use Rattle.lrs_laws.proofs.Counting.{many}
use Rattle.lrs_laws.proofs.DeskStatements.{of_desk, satisfied_each}
use Rattle.lrs_laws.proofs.FreshIds.{AreFresh, all_added, fresh_fewer}
use Rattle.lrs_laws.proofs.Lists.{item_there}
use Rattle.lrs_laws.proofs.OwedOnce.{no_more}
use Rattle.lrs_laws.proofs.Progress.{IsSettled, any_weaker, none_by_verb, owed_before, tells_progress}
use Rattle.lrs_laws.proofs.Satisfied.{activity_said, registration_said, says_so}
use Rattle.lrs_laws.proofs.Walking.{NonePass}
use Rattle.lrs_names.proofs.IdTexts.{id_of-id_text}
use Rattle.lrs_names.specs.Ids.{IsId}
use Rattle.xapi_statement.specs.Statements.{add_each, is_that_id}
use Rattle.xapi_statement.specs.Statement.{activity_of, context_holds, has_context_activity, holds_at, is_activity_of, registration_of, verb_of}
use Rattle.xapi_statement.specs.Stored.{StoredStatement}
use Rattle.xapi_values.specs.Kinds.{kind_of}

-- ---- a number among others

abbrev is_among : ℕ → List ℕ → Bool
is_among k ps = list_any (λ p. p == k) ps

among_rest : (k p : ℕ) (ps : List ℕ) → (p ≡ k → ⊥) → is_among k (p ∷ ps) ≡ true → is_among k ps ≡ true
among_rest k p ps other is = sym (ap (λ b. b || is_among k ps) (ne_eqb p k other)) ∙ is

among_filtered : (q : ℕ → Bool) (k : ℕ) (ps : List ℕ) → q k ≡ true → is_among k ps ≡ true → is_among k (filter q ps) ≡ true
among_filtered q k [] passes is = is
among_filtered q k (p ∷ ps) passes is = by_test (q p) refl (cases_eq p k) (λ other. among_filtered q k ps passes (among_rest k p ps other is))
  where
    by_test : (b : Bool) → q p ≡ b → (p ≡ k) ⊎ (p ≡ k → ⊥) → ((p ≡ k → ⊥) → is_among k (filter q ps) ≡ true) → is_among k (cond b (p ∷ filter q ps) (filter q ps)) ≡ true
    by_test true at (inl same) later = ap (λ b. b || is_among k (filter q ps)) (eq-eqb p k same)
    by_test true at (inr other) later = or_right (p == k) (is_among k (filter q ps)) (later other)
    by_test false at (inl same) later = absurd (true≢false (sym passes ∙ (ap q (sym same) ∙ at)))
    by_test false at (inr other) later = later other

among_row : (k a count : ℕ) → a ≤ k → k < a + count → is_among k (range_with_len a count) ≡ true
among_row k a zero low high = absurd (omega (arith, low, high))
among_row k a (suc count) low high = by_first (cases_eq a k) (λ other. among_row k (a + 1) count (omega (arith, low, other)) (omega (arith, high)))
  where
    by_first : (a ≡ k) ⊎ (a ≡ k → ⊥) → ((a ≡ k → ⊥) → is_among k (range_with_len (a + 1) count) ≡ true) → is_among k (a ∷ range_with_len (a + 1) count) ≡ true
    by_first (inl same) later = ap (λ b. b || is_among k (range_with_len (a + 1) count)) (eq-eqb a k same)
    by_first (inr other) later = or_right (a == k) (is_among k (range_with_len (a + 1) count)) (later other)

among_depths : (nodes : List Node) (k : ℕ) (ps : List ℕ) (d : ℕ) → 0 < depth_of nodes k → depth_of nodes k ≤ d → is_among k ps ≡ true → is_among k (from_depth nodes ps d) ≡ true
among_depths nodes k ps zero deep fits is = absurd (omega (arith, deep, fits))
among_depths nodes k ps (suc d) deep fits is =
    list_any-append (λ p. p == k) (at_depth nodes ps (suc d)) (from_depth nodes ps d)
    ∙ by_depth (cases_eq (depth_of nodes k) (suc d)) (λ other. among_depths nodes k ps d deep (omega (arith, fits, other)) is)
  where
    by_depth : (depth_of nodes k ≡ suc d) ⊎ (depth_of nodes k ≡ suc d → ⊥) → ((depth_of nodes k ≡ suc d → ⊥) → is_among k (from_depth nodes ps d) ≡ true)
        → is_among k (at_depth nodes ps (suc d)) || is_among k (from_depth nodes ps d) ≡ true
    by_depth (inl same) later =
        ap (λ b. b || is_among k (from_depth nodes ps d)) (among_filtered (λ p. depth_of nodes p == suc d) k ps (eq-eqb (depth_of nodes k) (suc d) same) is)
    by_depth (inr other) later = or_right (is_among k (at_depth nodes ps (suc d))) (is_among k (from_depth nodes ps d)) (later other)

some_outward : (nodes : List Node) (steps k : ℕ) → 0 < steps → 0 < length (outward nodes steps (Some k))
some_outward nodes zero k some = absurd (omega (arith, some))
some_outward nodes (suc steps) k some = omega arith

-- a node that is owed is among those of which it is to be said
owed_among : (e : SeenEnrolment) (all : List StoredStatement) (k : ℕ) → k < length e.nodes → is_owed e all k ≡ true → is_among k (owed e all) ≡ true
owed_among e all k less is =
    among_depths e.nodes k (filter (is_owed e all) (indices e.nodes)) (length e.nodes) (some_outward e.nodes (length e.nodes) k (omega (arith, less))) (outward_short e.nodes (length e.nodes) (Some k))
    (among_filtered (is_owed e all) k (indices e.nodes) is (among_row k 0 (length e.nodes) (omega arith) (omega (arith, less))))

-- ---- how many

filtered_few : {A : Type 0} (q : A → Bool) (xs : List A) → length (filter q xs) ≤ length xs
filtered_few q [] = omega arith
filtered_few {A} q (x ∷ xs) = by_test (q x) (filtered_few q xs)
  where
    by_test : (b : Bool) → length (filter q xs) ≤ length xs → length (cond b (x ∷ filter q xs) (filter q xs)) ≤ suc (length xs)
    by_test true rest = let more : suc (length (filter q xs)) ≤ suc (length xs) = omega (arith, rest) in more
    by_test false rest = omega (arith, rest)

all_pass : (xs : List ℕ) → many (λ x. true) xs ≡ length xs
all_pass [] = refl
all_pass (x ∷ xs) = ap suc (all_pass xs)

given_few : {A B : Type 0} (f : A → Option B) (xs : List A) → length (filter_map f xs) ≤ length xs
given_few f [] = omega arith
given_few {A} {B} f (x ∷ xs) = by_some (f x) (given_few f xs)
  where
    by_some : (o : Option B) → length (filter_map f xs) ≤ length xs → length (cons_option o (filter_map f xs)) ≤ suc (length xs)
    by_some None rest = omega (arith, rest)
    by_some (Some y) rest = let more : suc (length (filter_map f xs)) ≤ suc (length xs) = omega (arith, rest) in more

owed_few : (e : SeenEnrolment) (all : List StoredStatement) → length (owed e all) ≤ length e.nodes
owed_few e all =
    let due : List ℕ = filter (is_owed e all) (indices e.nodes) in
    let deep : many (λ x. true) (owed e all) ≤ many (λ x. true) due = no_more e.nodes (λ x. true) due (length e.nodes) in
    let few : length due ≤ length (indices e.nodes) = filtered_few (is_owed e all) (indices e.nodes) in
    omega (arith, deep, few, all_pass (owed e all), all_pass due, length-range_with_len 0 (length e.nodes))

-- ---- what is told of a node

satisfied_defined : (e : Enrolled) (session : List ℕ) (index : ℕ) (node : Node) → is_cmi5_defined (satisfied_json e session index node) ≡ true
unfolding has_context_activity context_holds holds_at is_activity_of kind_of
satisfied_defined e session index node = refl

satisfied_said : (e : Enrolled) (session : List ℕ) (index : ℕ) (node : Node) → verb_of (satisfied_json e session index node) ≡ satisfied
unfolding verb_of
satisfied_said e session index node = refl

module _ (e : Enrolled) (is_id : IsId e.registration.id) (session : List ℕ) where
  abbrev own_name : ℕ → List ℕ
  own_name index = activity_of_node (enrolment_of e) index

  -- it counts for that node
  counts_for_it : (index : ℕ) (node : Node) → counts e.registration.id (own_name index) satisfied (view (tree_of (satisfied_json e session index node))) ≡ true
  counts_for_it index node =
      ap (λ j. counts e.registration.id (own_name index) satisfied j) (seen_tree said)
      ∙ and_from (says satisfied said && is_that_id e.registration.id (registration_of said)) (is_that_id (own_name index) (activity_of said))
      (and_from (says satisfied said) (is_that_id e.registration.id (registration_of said))
      (and_from (bytes_eq (verb_of said) satisfied) (is_cmi5_defined said)
      (ap (λ v. bytes_eq v satisfied) (satisfied_said e session index node) ∙ nat_list_eq_equiv.refl satisfied) (satisfied_defined e session index node))
      (ap (is_that_id e.registration.id) registered ∙ nat_list_eq_equiv.refl e.registration.id))
      (ap (is_that_id (own_name index)) (activity_said (said_satisfied node.kind) e.registration.actor (own_name index) node.id e.registration.id session) ∙ nat_list_eq_equiv.refl (own_name index))
    where
      said : Json
      said = satisfied_json e session index node

      registered : registration_of said ≡ Some e.registration.id
      registered = registration_said (said_satisfied node.kind) e.registration.actor (own_name index) node.id e.registration.id session ∙ id_of-id_text e.registration.id is_id

  -- so of each of these nodes one statement says that it is satisfied
  told_each : (supply : Supply) (moment index : ℕ) (ps : List ℕ) → index < length e.edition.course.nodes → is_among index ps ≡ true
      → list_any (says_so e.registration.id (own_name index)) (made_under supply moment (filter_map (satisfied_at e session) ps)) ≡ true
  told_each supply moment index [] less is = cc is
  told_each supply moment index (p ∷ ps) less is =
      by_first (cases_eq p index) (node_at p e.edition.course) refl (λ other later. told_each later moment index ps less (among_rest index p ps other is))
    where
      rest : List Json
      rest = filter_map (satisfied_at e session) ps

      so : StoredStatement → Bool
      so = says_so e.registration.id (own_name index)

      by_first : (p ≡ index) ⊎ (p ≡ index → ⊥) → (o : Option Node) → node_at p e.edition.course ≡ o → ((p ≡ index → ⊥) → (later : Supply) → list_any so (made_under later moment rest) ≡ true)
          → list_any so (made_under supply moment (cons_option (option_map (satisfied_json e session p) o) rest)) ≡ true
      by_first (inl same) None there later =
          let found = item_there e.edition.course.nodes index less in
          let missing : Some found.0 ≡ None = sym found.1 ∙ (ap (λ n. node_at n e.edition.course) (sym same) ∙ there) in
          cc missing
      by_first (inl same) (Some node) there later =
          ap (λ b. b || list_any so (made_under (rest_of supply) moment rest))
          (ap (λ a. counts e.registration.id a satisfied (view (tree_of (satisfied_json e session p node)))) (ap own_name (sym same)) ∙ counts_for_it p node)
      by_first (inr other) None there later = later other supply
      by_first (inr other) (Some node) there later =
          or_right (counts e.registration.id (own_name index) satisfied (view (tree_of (satisfied_json e session p node)))) (list_any so (made_under (rest_of supply) moment rest)) (later other (rest_of supply))

  -- none of them tells of progress
  pub none_told_of : (supply : Supply) (moment : ℕ) (ps : List ℕ) (registration : List ℕ) → NonePass (tells_progress registration) (made_under supply moment (filter_map (satisfied_at e session) ps))
  none_told_of supply moment ps registration =
      none_by_verb (satisfied ∷ []) refl refl refl registration (made_under supply moment (filter_map (satisfied_at e session) ps))
      (of_desk (satisfied ∷ []) supply moment (filter_map (satisfied_at e session) ps) (satisfied_each (satisfied ∷ []) refl e session ps))

  -- ---- behind what is owed

  pub settled_told : (supply : Supply) (moment n : ℕ) (all : List StoredStatement) → length e.edition.course.nodes ≤ n → AreFresh all supply n
      → IsSettled (enrolment_of e) (add_each all (made_under supply moment (filter_map (satisfied_at e session) (owed (enrolment_of e) all))))
  settled_told supply moment n all fits fresh index less =
      false_from_ne_true (is_owed (enrolment_of e) (add_each all made) index) (λ is. true≢false (sym (said is) ∙ unsaid is))
    where
      ps : List ℕ
      ps = owed (enrolment_of e) all

      js : List Json
      js = filter_map (satisfied_at e session) ps

      made : List StoredStatement
      made = made_under supply moment js

      few : length js ≤ n
      few = omega (arith, given_few (satisfied_at e session) ps, owed_few (enrolment_of e) all, fits)

      whole : add_each all made ≡ all ++ made
      whole = all_added all supply moment js (fresh_fewer all supply n (length js) few fresh)

      name : List ℕ
      name = own_name index

      told : List StoredStatement → Bool
      told l = was_said l e.registration.id name satisfied

      unsaid : is_owed (enrolment_of e) (add_each all made) index ≡ true → told (add_each all made) ≡ false
      unsaid is =
          not-true (told (add_each all made))
          (second_so (not (is_unit_in e.edition.course.nodes index) && is_satisfied (enrolment_of e) (add_each all made) index) (not (told (add_each all made))) is)

      said : is_owed (enrolment_of e) (add_each all made) index ≡ true → told (add_each all made) ≡ true
      said is =
          let before : is_owed (enrolment_of e) all index ≡ true =
          owed_before (enrolment_of e) index all made (none_told_of supply moment ps e.registration.id) (subst (λ l. is_owed (enrolment_of e) l index ≡ true) whole is) in
          let one : list_any (says_so e.registration.id name) made ≡ true = told_each supply moment index ps less (owed_among (enrolment_of e) all index less before) in
          let counted : list_any (counts_among true made e.registration.id name satisfied) made ≡ true =
          any_weaker (says_so e.registration.id name) (counts_among true made e.registration.id name satisfied) (λ s so. and_from (says_so e.registration.id name s) true so refl) made one in
          ap told whole
          ∙ (list_any-append (counts_among true made e.registration.id name satisfied) all made
          ∙ or_right (list_any (counts_among true made e.registration.id name satisfied) all) (list_any (counts_among true made e.registration.id name satisfied) made) counted)
