-- Statements of which none is older than one before it: one more, and those that were stored later than an instant.
use Rattle.std.proofs.Common.{◌≡◌, ◌⊎◌, ◌-◌, ◌*◌, ◌<◌, ◌≤◌, ℕ, zero, suc, ℤ, pos, negsuc, List, [], ◌∷◌, ◌++◌, length, get_or, min, refl, sym, ◌∙◌, ap, subst, arith, inl, inr, true≢false, Some, None, Bool, true, false, not, int_lt, nat_le, nat_lt, slice_get, leb-true, ltb-false, ltb-true}
use Rattle.std.specs.List.Sorted.{IsPartitionedBy, IsPartitionPoint}
use Rattle.std.specs.Option.{option_map_or}
use Rattle.std.proofs.lemmas.Bool.Decides.{nat_tests}
use Rattle.std.proofs.lemmas.Option.{get_or_from_slice_get, none-some, same_Some, slice_get-get_or, slice_get_cases, slice_get_within}
use Rattle.xapi_index.specs.Index.{IsRising}
use Rattle.xapi_index.specs.Times.{AreLaterFrom, is_until, stands_behind}
use Rattle.xapi_index.proofs.Firsts.{lt_no}
use Rattle.xapi_postings.specs.XapiQueryFilters.{stored_instant}
use Rattle.xapi_postings.specs.XapiStatementStored.{StoredStatement}

-- ---- one statement more

got_push : {A : Type 0} (xs : List A) (y x : A) (k : ℕ) → slice_get (xs ++ y ∷ []) k ≡ Some x → (slice_get xs k ≡ Some x) ⊎ ((k ≡ length xs) × (y ≡ x))
got_push [] y x zero at = inr (refl, same_Some y x at)
got_push [] y x (suc k) at = absurd (none-some x at)
got_push (z ∷ xs) y x zero at = inl at
got_push (z ∷ xs) y x (suc k) at = by_case (got_push xs y x k at)
  where
    by_case : (slice_get xs k ≡ Some x) ⊎ ((k ≡ length xs) × (y ≡ x)) → (slice_get xs k ≡ Some x) ⊎ ((suc k ≡ suc (length xs)) × (y ≡ x))
    by_case (inl there) = inl there
    by_case (inr end) = inr (ap suc end.0, end.1)

-- it is no older than any of the list
above_all : (held : List StoredStatement) (s : StoredStatement) → IsRising held → stands_behind held s ≡ true → (i : ℕ) (a : StoredStatement) → slice_get held i ≡ Some a → a.stored ≤ s.stored
above_all held s up behind i a at = by_last (slice_get_cases held (length held - 1)).1
  where
    inside : i < length held
    inside = slice_get_within held i a at

    by_last : (((x : StoredStatement) × (length held - 1 < length held) × (slice_get held (length held - 1) ≡ Some x) × (get_or held (length held - 1) x ≡ x)) ⊎ ((length held ≤ length held - 1) × (slice_get held (length held - 1) ≡ None)))
        → a.stored ≤ s.stored
    by_last (inl w) =
        let le : i ≤ length held - 1 = omega (arith, inside) in
        let last = up i (length held - 1) a w.0 le at w.2 in
        let test : nat_le w.0.stored s.stored ≡ true = sym (ap (λ o. option_map_or (λ (x : StoredStatement). nat_le x.stored s.stored) o true) w.2) ∙ behind in
        omega (arith, last, leb-true w.0.stored s.stored test)
    by_last (inr w) = absurd (omega (arith, inside, w.0))

pub rising_more : (held : List StoredStatement) (s : StoredStatement) → IsRising held → stands_behind held s ≡ true → IsRising (held ++ s ∷ [])
rising_more held s up behind = λ i j a b le at_i at_j. by_indices i j a b le (got_push held s a i at_i) (got_push held s b j at_j)
  where
    by_indices : (i j : ℕ) (a b : StoredStatement) → i ≤ j → (slice_get held i ≡ Some a) ⊎ ((i ≡ length held) × (s ≡ a)) → (slice_get held j ≡ Some b) ⊎ ((j ≡ length held) × (s ≡ b)) → a.stored ≤ b.stored
    by_indices i j a b le (inl at_i) (inl at_j) = up i j a b le at_i at_j
    by_indices i j a b le (inl at_i) (inr at_j) = subst (λ (x : StoredStatement). a.stored ≤ x.stored) at_j.1 (above_all held s up behind i a at_i)
    by_indices i j a b le (inr at_i) (inl at_j) = absurd (omega (arith, at_i.0, slice_get_within held j b at_j))
    by_indices i j a b le (inr at_i) (inr at_j) = omega (arith, ap (λ (x : StoredStatement). x.stored) (sym at_i.1 ∙ at_j.1))

-- ---- what was stored later

until_number : (t a b : ℕ) → a ≤ b → not (nat_lt t (b * 1_000_000)) ≡ true → not (nat_lt t (a * 1_000_000)) ≡ true
until_number t a b le is = by_test (nat_lt t (b * 1_000_000)) refl is
  where
    by_test : (x : Bool) → nat_lt t (b * 1_000_000) ≡ x → not x ≡ true → not (nat_lt t (a * 1_000_000)) ≡ true
    by_test true test is = absurd (true≢false (sym is))
    by_test false test is =
        let past : b * 1_000_000 ≤ t = ltb-false t (b * 1_000_000) test in
        let over : a * 1_000_000 ≤ t = omega arith in
        ap not (lt_no t (a * 1_000_000) over)

until_before : (t : ℤ) (a b : ℕ) → a ≤ b → not (int_lt t (pos (b * 1_000_000))) ≡ true → not (int_lt t (pos (a * 1_000_000))) ≡ true
until_before (pos t) a b le is = until_number t a b le is
until_before (negsuc t) a b le is = is

pub until_parted : (held : List StoredStatement) (t : ℤ) → IsRising held → IsPartitionedBy (is_until t) held
until_parted held t up = λ i j d le less is.
    let within : i < length held = omega arith in
    until_before t (get_or held i d).stored (get_or held j d).stored (up i j (get_or held i d) (get_or held j d) le (slice_get-get_or held i d within) (slice_get-get_or held j d less)) is

le_yes : (m k : ℕ) → m ≤ k → nat_le m k ≡ true
le_yes m k le = grind (arith, nat_tests)

le_no : (m k : ℕ) → k < m → nat_le m k ≡ false
le_no m k less = grind (arith, nat_tests)

later_true : (x : Bool) → not x ≡ false → true ≡ x
later_true true is = refl
later_true false is = is

later_false : (x : Bool) → not x ≡ true → false ≡ x
later_false true is = is
later_false false is = refl

-- where those that weren't stored later come first
pub later_from : (held : List StoredStatement) (t : ℤ) (first n : ℕ) → IsPartitionPoint (λ (s : StoredStatement). is_until t s ≡ true) (λ (s : StoredStatement). is_until t s ≡ false) held first
    → AreLaterFrom held n t (min first n)
later_from held t first n parted = (omega arith, λ k s less at. by_index k s less at (nat_lt k first) refl)
  where
    by_index : (k : ℕ) (s : StoredStatement) → k < n → slice_get held k ≡ Some s → (b : Bool) → nat_lt k first ≡ b → nat_le (min first n) k ≡ int_lt t (stored_instant s)
    by_index k s less at true before =
        let under : k < first = ltb-true k first before in
        let past : k < min first n = omega arith in
        le_no (min first n) k past
        ∙ later_false (int_lt t (stored_instant s)) (subst (λ (x : StoredStatement). is_until t x ≡ true) (get_or_from_slice_get held k s s at) (parted.0 k s (omega arith) under))
    by_index k s less at false behind =
        let from : first ≤ k = ltb-false k first behind in
        let over : min first n ≤ k = omega arith in
        le_yes (min first n) k over
        ∙ later_true (int_lt t (stored_instant s)) (subst (λ (x : StoredStatement). is_until t x ≡ false) (get_or_from_slice_get held k s s at) (parted.1 k s from (slice_get_within held k s at)))
