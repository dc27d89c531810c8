-- What is said at positions, and that all of a registration stands under its key.
use Rattle.std.proofs.Common.{◌≡◌, ◌∙◌, ◌&&◌, ◌||◌, ◌+◌, ◌<◌, ◌≤◌, ◌⊎◌, ◌^◌, ℕ, zero, suc, Bool, true, false, not, cond, List, [], ◌∷◌, length, drop, get_or, Option, Some, None, inl, inr, refl, sym, ap, arith}
use Rattle.std.specs.Prelude.{filter, filter_map, if◌then◌else◌, slice_get}
use Rattle.std.specs.List.{cons_option}
use Rattle.std.specs.Option.{option_map_or}
use Rattle.std.specs.Str.{bytes_eq}
use Rattle.std.proofs.lemmas.Bool.{cases_lt, le-ltb, lt-ltb, true≢false}
use Rattle.std.proofs.lemmas.List.{drop_all, drop_more}
use Rattle.std.proofs.lemmas.Option.{slice_get_past}
use Rattle.cmi5_session.specs.Cmi5LaunchNames.{completed, passed, satisfied, waived}
use Rattle.cmi5_session.specs.Own.{says}
use Rattle.cmi5_verdict.specs.Nodes.{SeenEnrolment, activity_of_node}
use Rattle.cmi5_verdict.specs.Said.{counts_for, either, said_among, said_by, said_of, unsaid}
use Rattle.cmi5_verdict.specs.declared.said.Said.{Said}
use Rattle.cmi5_verdict.proofs.Spoken.{among_more, among_none, either_assoc, either_unsaid, same_said, unsaid_either}
use Rattle.lrs_json.specs.View.{view}
use Rattle.cmi5_session.specs.XapiStatementStatements.{is_that_id, is_voided}
use Rattle.xapi_index.specs.XapiPostingsAscending.{below, positions_from, positions_with}
use Rattle.cmi5_session.specs.XapiStatementStatement.{activity_of, registration_of}
use Rattle.cmi5_session.specs.XapiStatementStored.{StoredStatement}
use Rattle.xapi_index.specs.XapiStatementKeysKeys.{has_key}
use Rattle.xapi_index.specs.XapiStatementKeysKeyKeyTheVariants as key
use Rattle.xapi_index.specs.Index.{statements_at}

-- ---- the statements at positions

none_before : (k : ℕ) → 0 + k ≡ k
none_before k = omega arith

stays : (i : ℕ) → i ≡ i + 0
stays i = omega arith

pub one_on : (i k : ℕ) → i + 1 + k ≡ i + suc k
one_on i k = omega arith

-- none stands at a position past the end
at_below : (xs : List StoredStatement) (ks : List ℕ) → statements_at xs (below (length xs) ks) ≡ statements_at xs ks
at_below xs [] = refl
at_below xs (k ∷ ks) = by_case (cases_lt k (length xs)) (at_below xs ks)
  where
    by_case : (k < length xs) ⊎ (length xs ≤ k) → statements_at xs (below (length xs) ks) ≡ statements_at xs ks → statements_at xs (below (length xs) (k ∷ ks)) ≡ statements_at xs (k ∷ ks)
    by_case (inl within) more =
        ap (λ b. statements_at xs (cond b (k ∷ below (length xs) ks) (below (length xs) ks))) (lt-ltb k (length xs) within)
        ∙ ap (λ ys. cons_option (slice_get xs k) ys) more
    by_case (inr past) more =
        ap (λ b. statements_at xs (cond b (k ∷ below (length xs) ks) (below (length xs) ks))) (le-ltb k (length xs) past)
        ∙ (more ∙ sym (ap (λ o. cons_option o (statements_at xs ks)) (slice_get_past xs k past)))

passing_from : (get : ℕ → Option StoredStatement) (p : StoredStatement → Bool) (i : ℕ) (xs : List StoredStatement) → ((k : ℕ) → get (i + k) ≡ slice_get xs k)
    → filter_map get (positions_from p i xs) ≡ filter p xs
passing_from get p i [] same = refl
passing_from get p i (x ∷ xs) same =
    by_test (p x) (ap (λ m. get m) (stays i) ∙ same zero) (passing_from get p (i + 1) xs (λ k. ap (λ m. get m) (one_on i k) ∙ same (suc k)))
  where
    by_test : (b : Bool) → get i ≡ Some x → filter_map get (positions_from p (i + 1) xs) ≡ filter p xs
        → filter_map get (if b then i ∷ positions_from p (i + 1) xs else positions_from p (i + 1) xs) ≡ cond b (x ∷ filter p xs) (filter p xs)
    by_test true here more = ap (λ o. cons_option o (filter_map get (positions_from p (i + 1) xs))) here ∙ ap (λ ys. x ∷ ys) more
    by_test false here more = more

-- at the positions of those that pass stand those that pass
at_passing : (p : StoredStatement → Bool) (xs : List StoredStatement) → statements_at xs (positions_with p xs) ≡ filter p xs
at_passing p xs = passing_from (λ m. slice_get xs m) p 0 xs (λ k. ap (λ m. slice_get xs m) (none_before k))

-- ---- what is said at positions, one after another

module _ (e : SeenEnrolment) (all : List StoredStatement) (index : ℕ) where
  at_more : (held : List StoredStatement) (k : ℕ) (ks : List ℕ)
      → said_among e all index (statements_at held (k ∷ ks)) ≡ either (option_map_or (said_by e all index) (slice_get held k) unsaid) (said_among e all index (statements_at held ks))
  at_more held k ks = by_item (slice_get held k)
    where
      by_item : (o : Option StoredStatement)
          → said_among e all index (cons_option o (statements_at held ks)) ≡ either (option_map_or (said_by e all index) o unsaid) (said_among e all index (statements_at held ks))
      by_item (Some x) = among_more e all index x (statements_at held ks)
      by_item None = sym (unsaid_either (said_among e all index (statements_at held ks)))

  -- what is noted so far, and what is said at the positions that are left
  pub position_next : (held : List StoredStatement) (ks : List ℕ) (i : ℕ) (before now whole : Said) → i < length ks
      → now ≡ either before (option_map_or (said_by e all index) (slice_get held (get_or ks i 0)) unsaid)
      → either before (said_among e all index (statements_at held (drop i ks))) ≡ whole → either now (said_among e all index (statements_at held (drop (i + 1) ks))) ≡ whole
  position_next held ks i before now whole less is so_far =
      let told : Said = option_map_or (said_by e all index) (slice_get held (get_or ks i 0)) unsaid in
      let rest : Said = said_among e all index (statements_at held (drop (i + 1) ks)) in
      ap (λ s. either s rest) is ∙ (either_assoc before told rest
      ∙ (ap (λ s. either before s) (sym (ap (λ js. said_among e all index (statements_at held js)) (drop_more ks i 0 less) ∙ at_more held (get_or ks i 0) (drop (i + 1) ks))) ∙ so_far))

  pub positions_end : (held : List StoredStatement) (ks : List ℕ) (i : ℕ) (now whole : Said) → length ks ≤ i
      → either now (said_among e all index (statements_at held (drop i ks))) ≡ whole → now ≡ whole
  positions_end held ks i now whole end so_far =
      sym (ap (λ js. either now (said_among e all index (statements_at held js))) (drop_all i ks end) ∙ (ap (λ s. either now s) (among_none e all index) ∙ either_unsaid now)) ∙ so_far

-- ---- statements of other registrations say nothing

pub named : (id : List ℕ) (o : Option (List ℕ)) → is_that_id id o ≡ option_map_or (λ own. bytes_eq own id) o false
named id None = refl
named id (Some own) = refl

none_of : (v r a w : Bool) → r ≡ false → (v && r && a && w) ≡ false
none_of v true a w other = absurd (true≢false other)
none_of true false a w other = refl
none_of false false a w other = refl

silent : (e : SeenEnrolment) (all : List StoredStatement) (index : ℕ) (s : StoredStatement) → is_that_id e.registration (registration_of (view s.received)) ≡ false
    → (even : Bool) (verb : List ℕ) → counts_for e all even verb index s ≡ false
silent e all index s other even verb =
    none_of (says verb (view s.received)) (is_that_id e.registration (registration_of (view s.received))) (is_that_id (activity_of_node e index) (activity_of (view s.received)))
    (even || not (is_voided all s)) other

pub said_elsewhere : (e : SeenEnrolment) (all : List StoredStatement) (index : ℕ) (s : StoredStatement) → is_that_id e.registration (registration_of (view s.received)) ≡ false
    → said_by e all index s ≡ unsaid
unfolding said_by
said_elsewhere e all index s other =
    same_said _ _ _ _ _ _ _ _ (silent e all index s other false waived) (silent e all index s other false completed) (silent e all index s other false passed)
    (silent e all index s other true satisfied)

among_passing : (e : SeenEnrolment) (all : List StoredStatement) (index : ℕ) (p : StoredStatement → Bool) (xs : List StoredStatement) → ((x : StoredStatement) → p x ≡ false → said_by e all index x ≡ unsaid)
    → said_among e all index (filter p xs) ≡ said_among e all index xs
among_passing e all index p [] others = refl
among_passing e all index p (x ∷ xs) others = by_test (p x) refl (among_passing e all index p xs others)
  where
    by_test : (b : Bool) → p x ≡ b → said_among e all index (filter p xs) ≡ said_among e all index xs
        → said_among e all index (cond b (x ∷ filter p xs) (filter p xs)) ≡ said_among e all index (x ∷ xs)
    by_test true is more =
        among_more e all index x (filter p xs) ∙ (ap (λ s. either (said_by e all index x) s) more ∙ sym (among_more e all index x xs))
    by_test false is more =
        more ∙ sym (among_more e all index x xs ∙ (ap (λ s. either s (said_among e all index xs)) (others x is) ∙ unsaid_either (said_among e all index xs)))

-- what is said at the positions under the key of the registration is what all say that are held
pub said_under_key : (e : SeenEnrolment) (all held : List StoredStatement) (index : ℕ) (positions : List ℕ)
    → below (length held) positions ≡ positions_with (has_key (key.Registration e.registration)) held
    → said_among e all index (statements_at held positions) ≡ said_among e all index held
said_under_key e all held index positions visible =
    let own : StoredStatement → Bool = has_key (key.Registration e.registration) in
    ap (λ xs. said_among e all index xs) (sym (at_below held positions) ∙ (ap (λ ks. statements_at held ks) visible ∙ at_passing own held))
    ∙ among_passing e all index own held (λ x is. said_elsewhere e all index x (named e.registration (registration_of (view x.received)) ∙ is))

-- ---- what is noted of each node, told otherwise

pub noted_as : (old new : List Said) (first : ℕ) (f g : ℕ → Said) → ((p : ℕ) → f p ≡ g p)
    → ((k : ℕ) → k < length old → first + k < 2 ^ 64 → said_of new k ≡ either (said_of old k) (f (first + k)))
    → (k : ℕ) → k < length old → first + k < 2 ^ 64 → said_of new k ≡ either (said_of old k) (g (first + k))
noted_as old new first f g same noted k lt small = noted k lt small ∙ ap (λ s. either (said_of old k) s) (same (first + k))
