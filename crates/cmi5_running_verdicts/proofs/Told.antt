-- What tallies tell is what the statements say for which they stand.
use Rattle.std.proofs.Common.{◌≡◌, ◌∙◌, ◌<◌, ◌≤◌, ◌^◌, ◌==◌, ◌&&◌, ◌||◌, ℕ, suc, nat_lt, Bool, true, false, not, cond, if◌then◌else◌, List, [], ◌∷◌, ◌++◌, length, map, slice_get, Some, None, refl, sym, ap, subst, arith, true≢false}
use Rattle.std.proofs.Math.Bool.{and-true, or-false}
use Rattle.std.specs.Prelude.{filter}
use Rattle.std.specs.List.{list_all, list_any, range_with_len}
use Rattle.std.specs.Option.{option_map_or}
use Rattle.std.proofs.lemmas.Bool.{eq-eqb, ne_eqb}
use Rattle.std.proofs.lemmas.List.Folds.{list_any-append}
use Rattle.std.proofs.lemmas.List.FromFn.{fill_by_all, get_or-map-range_with_len, length-map-range_with_len}
use Rattle.std.proofs.lemmas.List.Sums.{length-filter}
use Rattle.std.proofs.lemmas.Option.{slice_get-get_or}
use Rattle.cmi5_verdict.specs.Cmi5LaunchNames.{completed, passed, satisfied, waived}
use Rattle.cmi5_running_verdicts.specs.Changes.{tally_of, untold}
use Rattle.cmi5_running_verdicts.specs.Tallies.{AreTallies, is_met_by_all, said_by_all, said_in_tally, says_of_node, says_still, unmet_under}
use Rattle.cmi5_running_verdicts.specs.Told.{any_voids, is_all_met_at, is_waived_at, said_at, voids_one}
use Rattle.cmi5_running_verdicts.specs.declared.tally.Tally.{Tally}
use Rattle.cmi5_verdict.specs.Cmi5SessionCounting.{counts}
use Rattle.cmi5_verdict.specs.Cmi5SessionMarked.{mark, marked}
use Rattle.cmi5_verdict.specs.Nodes.{SeenEnrolment, activity_of_node, is_met_at, is_satisfied, is_under, indices, under, unit_in, verdicts}
use Rattle.cmi5_verdict.specs.Said.{counts_for, either, meets, said_among, said_in, said_of, unsaid}
use Rattle.cmi5_verdict.specs.Units.{stands}
use Rattle.cmi5_verdict.specs.declared.said.Said.{Said}
use Rattle.cmi5_verdict.proofs.Marked.{map_alike}
use Rattle.cmi5_verdict.proofs.Spoken.{among_both, same_said}
use Rattle.cmi5_running_verdicts.proofs.Visits.{kept_any}
use Rattle.lrs_json.specs.View.{view}
use Rattle.cmi5_verdict.specs.XapiStatementStatements.{is_that_id, is_voided, voids}
use Rattle.xapi_rules.specs.Rules.{is_voiding}
use Rattle.cmi5_verdict.specs.XapiStatementStatement.{target_of}
use Rattle.cmi5_verdict.specs.XapiStatementStored.{StoredStatement}

-- ---- tests over lists

any_marked : {A B : Type 0} (q : B → Bool) (r : A → Bool) (mk : A → B) (xs : List A) → ((x : A) → q (mk x) ≡ r x) → list_any q (map mk xs) ≡ list_any r xs
any_marked q r mk [] same = refl
any_marked q r mk (x ∷ xs) same = ap (λ b. b || list_any q (map mk xs)) (same x) ∙ ap (λ b. r x || b) (any_marked q r mk xs same)

any_alike : {A : Type 0} (q r : A → Bool) (xs : List A) → ((x : A) → q x ≡ r x) → list_any q xs ≡ list_any r xs
any_alike q r [] same = refl
any_alike q r (x ∷ xs) same = ap (λ b. b || list_any q xs) (same x) ∙ ap (λ b. r x || b) (any_alike q r xs same)

all_alike : (f g : ℕ → Bool) (xs : List ℕ) → ((k : ℕ) → f k ≡ g k) → list_all f xs ≡ list_all g xs
all_alike f g [] same = refl
all_alike f g (x ∷ xs) same = ap (λ b. b && list_all f xs) (same x) ∙ ap (λ b. g x && b) (all_alike f g xs same)

-- none of those under a node fails exactly where all of them pass
none_fails : (inside passes : ℕ → Bool) (xs : List ℕ) → (length (filter (λ p. inside p && not (passes p)) xs) == 0) ≡ list_all passes (filter inside xs)
none_fails inside passes [] = eq-eqb 0 0 refl
none_fails inside passes (x ∷ xs) = by_tests (inside x) (passes x) refl (none_fails inside passes xs)
  where
    by_tests : (b c : Bool) → passes x ≡ c → (length (filter (λ p. inside p && not (passes p)) xs) == 0) ≡ list_all passes (filter inside xs)
        → (length (cond (b && not c) (x ∷ filter (λ p. inside p && not (passes p)) xs) (filter (λ p. inside p && not (passes p)) xs)) == 0)
        ≡ list_all passes (cond b (x ∷ filter inside xs) (filter inside xs))
    by_tests true true is more = more ∙ ap (λ t. t && list_all passes (filter inside xs)) (sym is)
    by_tests true false is more =
        ne_eqb (suc (length (filter (λ p. inside p && not (passes p)) xs))) 0 (λ e. omega arith) ∙ ap (λ t. t && list_all passes (filter inside xs)) (sym is)
    by_tests false c is more = more

-- ---- what marked statements say of a node

module _ (e : SeenEnrolment) (statements : List StoredStatement) where
  still : (verb : List ℕ) (index : ℕ) → list_any (says_still e verb index) (marked statements) ≡ list_any (counts_for e statements false verb index) statements
  still verb index = any_marked (says_still e verb index) (counts_for e statements false verb index) (λ s. mark s (is_voided statements s)) statements (λ s. refl)

  ever : (index : ℕ) → list_any (says_of_node e satisfied index) (marked statements) ≡ list_any (counts_for e statements true satisfied index) statements
  ever index =
      any_marked (says_of_node e satisfied index) (counts_for e statements true satisfied index) (λ s. mark s (is_voided statements s)) statements
      (λ s. sym (and-true (counts e.registration (activity_of_node e index) satisfied (view s.received))))

  many_still : (verb : List ℕ) (index : ℕ) (n : ℕ) → n ≡ length (filter (says_still e verb index) (marked statements)) → nat_lt 0 n ≡ list_any (counts_for e statements false verb index) statements
  many_still verb index n is = ap (λ k. nat_lt 0 k) is ∙ (kept_any (says_still e verb index) (marked statements) ∙ still verb index)

  said_marked : (index : ℕ) → said_by_all e (marked statements) index ≡ said_in e statements index
  unfolding said_among
  said_marked index =
      same_said _ _ _ _ _ _ _ _ (many_still waived index _ (sym (length-filter (says_still e waived index) (marked statements))))
      (many_still completed index _ (sym (length-filter (says_still e completed index) (marked statements))))
      (many_still passed index _ (sym (length-filter (says_still e passed index) (marked statements)))) (ever index)

  met_marked : (index : ℕ) → is_met_by_all e (marked statements) index ≡ is_met_at e statements index
  unfolding said_among
  met_marked index = ap (λ (s : Said). option_map_or (λ unit. meets unit.move_on s) (unit_in e.nodes index) true) (said_marked index)

  -- none under a node is unmet exactly where it is satisfied
  none_unmet : (holder : ℕ) → (unmet_under e (marked statements) holder == 0) ≡ is_satisfied e statements holder
  none_unmet holder =
      ap (λ n. n == 0) (sym (length-filter (λ p. is_under e.nodes holder p && not (is_met_by_all e (marked statements) p)) (indices e.nodes)))
      ∙ (none_fails (is_under e.nodes holder) (is_met_by_all e (marked statements)) (indices e.nodes)
      ∙ all_alike (is_met_by_all e (marked statements)) (is_met_at e statements) (under e.nodes holder) met_marked)

-- ---- what tallies tell

module _ (e : SeenEnrolment) (statements : List StoredStatement) (ts : List Tally) (are : AreTallies e (marked statements) ts) where
  within : (index : ℕ) → index < length e.nodes → index < length ts
  within index lt = subst (λ n. index < n) (sym are.long) lt

  there : (index : ℕ) → index < length e.nodes → slice_get ts index ≡ Some (tally_of ts index)
  there index lt = slice_get-get_or ts index untold (within index lt)

  tally_said : (index : ℕ) (t : Tally) → slice_get ts index ≡ Some t → said_in_tally t ≡ said_in e statements index
  tally_said index t at =
      let is = are.each index t at in
      same_said _ _ _ _ _ _ _ _ (ap (λ n. nat_lt 0 n) is.waived) (ap (λ n. nat_lt 0 n) is.completed) (ap (λ n. nat_lt 0 n) is.passed) is.satisfied ∙ said_marked e statements index

  pub said_told : (index : ℕ) → index < length e.nodes → said_at ts index ≡ said_in e statements index
  said_told index lt = tally_said index (tally_of ts index) (there index lt)

  pub verdict_told : (index : ℕ) → index < length e.nodes → is_all_met_at ts index ≡ is_satisfied e statements index
  verdict_told index lt =
      let is = are.each index (tally_of ts index) (there index lt) in
      ap (λ n. n == 0) is.unmet ∙ none_unmet e statements index

  pub verdicts_told : map (is_all_met_at ts) (range_with_len 0 (length ts)) ≡ verdicts e statements
  verdicts_told =
      ap (λ n. map (is_all_met_at ts) (range_with_len 0 n)) are.long
      ∙ map_alike (is_all_met_at ts) (is_satisfied e statements) 0 (length e.nodes) (λ p lt. verdict_told p (omega arith))

  pub waiver_told : (index : ℕ) → index < length e.nodes → is_waived_at ts index ≡ stands statements e.registration (activity_of_node e index) waived
  unfolding said_among
  waiver_told index lt = ap (λ (s : Said). s.waived) (said_told index lt)

-- ---- new statements of which none is a voiding statement

none_targets : (id : List ℕ) (new : List StoredStatement) → any_voids new ≡ false → list_any (voids id) new ≡ false
none_targets id [] none = refl
none_targets id (s ∷ ss) none = by_test (voids_one s) refl none (λ rest. none_targets id ss rest)
  where
    by_test : (b : Bool) → voids_one s ≡ b → (b || any_voids ss) ≡ false → (any_voids ss ≡ false → list_any (voids id) ss ≡ false) → (voids id s || list_any (voids id) ss) ≡ false
    by_test true is others more = absurd (true≢false others)
    by_test false is others more = ap (λ b. is_that_id id (if b then target_of (view s.received) else None) || list_any (voids id) ss) is ∙ more others

module _ (e : SeenEnrolment) (held new : List StoredStatement) (none : any_voids new ≡ false) where
  same_voided : (s : StoredStatement) → is_voided (held ++ new) s ≡ is_voided held s
  same_voided s =
      ap (λ b. not (is_voiding (view s.received)) && b)
      (list_any-append (voids s.id) held new ∙ (ap (λ b. list_any (voids s.id) held || b) (none_targets s.id new none) ∙ or-false (list_any (voids s.id) held)))

  counts_same : (even_voided : Bool) (verb : List ℕ) (index : ℕ) → list_any (counts_for e (held ++ new) even_voided verb index) held ≡ list_any (counts_for e held even_voided verb index) held
  counts_same even_voided verb index =
      any_alike (counts_for e (held ++ new) even_voided verb index) (counts_for e held even_voided verb index) held
      (λ s. ap (λ b. counts e.registration (activity_of_node e index) verb (view s.received) && (even_voided || not b)) (same_voided s))

  same_held : (index : ℕ) → said_among e (held ++ new) index held ≡ said_in e held index
  unfolding said_among
  same_held index =
      same_said _ _ _ _ _ _ _ _ (counts_same false waived index) (counts_same false completed index) (counts_same false passed index) (counts_same true satisfied index)

  -- what all say is what those said that are held, and what the new ones say
  in_both : (index : ℕ) → said_in e (held ++ new) index ≡ either (said_in e held index) (said_among e (held ++ new) index new)
  in_both index = among_both e (held ++ new) index held new ∙ ap (λ (s : Said). either s (said_among e (held ++ new) index new)) (same_held index)

  -- what the tallies tell, and what the new ones add to it
  pub said_with_new : (ts : List Tally) (before after : List Said) → AreTallies e (marked held) ts → length ts ≤ 2 ^ 64 → before ≡ map (said_at ts) (range_with_len 0 (length ts)) → length after ≡ length before
      → ((k : ℕ) → k < length before → k < 2 ^ 64 → said_of after k ≡ either (said_of before k) (said_among e (held ++ new) k new)) → after ≡ map (said_in e (held ++ new)) (indices e.nodes)
  said_with_new ts before after are few is same added =
      let long : length before ≡ length ts = ap (λ (ss : List Said). length ss) is ∙ length-map-range_with_len (said_at ts) 0 (length ts) in
      fill_by_all (said_in e (held ++ new)) after (length e.nodes) unsaid (same ∙ (long ∙ are.long))
      (λ k lt. let inside : k < length ts = subst (λ n. k < n) (sym are.long) lt in
      let told : said_of before k ≡ said_in e held k =
      ap (λ (ss : List Said). said_of ss k) is ∙ (get_or-map-range_with_len (said_at ts) 0 (length ts) k k unsaid inside (omega arith) ∙ said_told e held ts are k lt) in
      added k (subst (λ n. k < n) (sym long) inside) (omega (arith, inside, few))
      ∙ (ap (λ (s : Said). either s (said_among e (held ++ new) k new)) told ∙ sym (in_both k)))
