-- What a binary search finds among ascending positions.
use Rattle.std.proofs.Common.{◌≡◌, ◌==◌, ◌<◌, ◌≤◌, ◌+◌, ◌-◌, ◌⊎◌, ℕ, nat_lt, Bool, true, false, List, length, get_or, slice_get, Option, Some, None, refl, sym, ap, ◌∙◌, subst, inl, inr, arith}
use Rattle.std.specs.List.Sorted.{IsPartitionPoint, IsPartitionedBy}
use Rattle.std.proofs.lemmas.Bool.{cases_lt, eqb-false, eqb-true, false_from_ne_true, lt-ltb, ltb-true}
use Rattle.std.proofs.lemmas.Option.{get_or_from_slice_get, none-some, same_Some, slice_get-get_or, slice_get_within}
use Rattle.xapi_postings.specs.Ascending.{IsAscending, is_in}
use Rattle.xapi_postings.specs.Nearest.{IsGreatestBelow, IsLeastFrom}
use Rattle.xapi_postings.proofs.Ascending.{ascending-up_to, in-at, index_of}

-- as many of them are below that bound
abbrev pub AreBelow : List ℕ → ℕ → ℕ → Type 0
AreBelow ks end count = IsPartitionPoint (λ j. j < end) (λ j. end ≤ j) ks count

later : (ks : List ℕ) (i j d : ℕ) → IsAscending ks → i ≤ j → j < length ks → get_or ks i d ≤ get_or ks j d
later ks i j d up le within = ascending-up_to ks i j (get_or ks i d) (get_or ks j d) up le (slice_get-get_or ks i d (omega arith)) (slice_get-get_or ks j d within)

-- none that is below a bound comes behind one that isn't
pub parted : (end : ℕ) (ks : List ℕ) → IsAscending ks → IsPartitionedBy (λ j. nat_lt j end) ks
parted end ks up = λ i j d le within less. lt-ltb (get_or ks i d) end (omega (arith, later ks i j d up le within, ltb-true (get_or ks j d) end less))

low : (ks : List ℕ) (end count n k : ℕ) → AreBelow ks end count → slice_get ks n ≡ Some k → n < count → k < end
low ks end count n k counted there before = subst (λ m. m < end) (get_or_from_slice_get ks n k k there) (counted.0 n k (omega arith) before)

high : (ks : List ℕ) (end count n k : ℕ) → AreBelow ks end count → slice_get ks n ≡ Some k → count ≤ n → end ≤ k
high ks end count n k counted there behind = subst (λ m. end ≤ m) (get_or_from_slice_get ks n k k there) (counted.1 n k behind (slice_get_within ks n k there))

-- what isn't below the bound stands behind those
reached : (ks : List ℕ) (end count n k : ℕ) → AreBelow ks end count → slice_get ks n ≡ Some k → end ≤ k → count ≤ n
reached ks end count n k counted there le = by_case le (cases_lt n count)
  where
    by_case : end ≤ k → (n < count) ⊎ (count ≤ n) → count ≤ n
    by_case above (inl before) = absurd (omega (arith, low ks end count n k counted there before))
    by_case above (inr behind) = behind

-- what is below the bound stands among those
short : (ks : List ℕ) (end count n k : ℕ) → AreBelow ks end count → slice_get ks n ≡ Some k → k < end → n < count
short ks end count n k counted there less = by_case less (cases_lt n count)
  where
    by_case : k < end → (n < count) ⊎ (count ≤ n) → n < count
    by_case under (inl before) = before
    by_case under (inr behind) = absurd (omega (arith, high ks end count n k counted there behind))

-- where a later index has a position, each has one
no_gap : (ks : List ℕ) (i n k : ℕ) → slice_get ks i ≡ None → i ≤ n → slice_get ks n ≡ Some k → ⊥
no_gap ks i n k none le there = none-some (get_or ks i k) (sym none ∙ slice_get-get_or ks i k (omega (arith, slice_get_within ks n k there)))

-- ---- whether a position is there

pub found_there : (ks : List ℕ) (k count j : ℕ) → IsAscending ks → AreBelow ks k count → slice_get ks count ≡ Some j → (j == k) ≡ is_in ks k
found_there ks k count j up counted at = by_test (j == k) refl
  where
    one : (n : ℕ) → slice_get ks n ≡ Some k → j ≡ k
    one n there = omega (arith, ascending-up_to ks count n j k up (reached ks k count n k counted there (omega arith)) at there, high ks k count count j counted at (omega arith))

    by_test : (b : Bool) → (j == k) ≡ b → b ≡ is_in ks k
    by_test true same = sym (in-at ks count k (at ∙ ap Some (eqb-true j k same)))
    by_test false other = sym (false_from_ne_true (is_in ks k) (λ among. eqb-false j k other (one (index_of ks k among).0 (index_of ks k among).1)))

pub not_there : (ks : List ℕ) (k count : ℕ) → AreBelow ks k count → slice_get ks count ≡ None → false ≡ is_in ks k
not_there ks k count counted none = sym (false_from_ne_true (is_in ks k) (λ among. beyond (index_of ks k among).0 (index_of ks k among).1))
  where
    beyond : (n : ℕ) → slice_get ks n ≡ Some k → ⊥
    beyond n there = no_gap ks count n k none (reached ks k count n k counted there (omega arith)) there

-- ---- the least one from a position on

least_some : (ks : List ℕ) (start count j : ℕ) → IsAscending ks → AreBelow ks start count → slice_get ks count ≡ Some j → IsLeastFrom (is_in ks) start (Some j)
least_some ks start count j up counted at = record {
  found = λ k is. (omega (arith, high ks start count count j counted at (omega arith), same_Some j k is), in-at ks count k (at ∙ is));
  no_other = λ k from before. false_from_ne_true (is_in ks k) (λ among. none k from (ltb-true k j before) (index_of ks k among).0 (index_of ks k among).1);
}
  where
    none : (k : ℕ) → start ≤ k → k < j → (n : ℕ) → slice_get ks n ≡ Some k → ⊥
    none k from before n there = omega (arith, ascending-up_to ks count n j k up (reached ks start count n k counted there from) at there)

least_none : (ks : List ℕ) (start count : ℕ) → AreBelow ks start count → slice_get ks count ≡ None → IsLeastFrom (is_in ks) start None
least_none ks start count counted past = record {
  found = λ k is. absurd (none-some k is);
  no_other = λ k from before. false_from_ne_true (is_in ks k) (λ among. none k from (index_of ks k among).0 (index_of ks k among).1);
}
  where
    none : (k : ℕ) → start ≤ k → (n : ℕ) → slice_get ks n ≡ Some k → ⊥
    none k from n there = no_gap ks count n k past (reached ks start count n k counted there from) there

pub least_from : (ks : List ℕ) (start count : ℕ) (answer : Option ℕ) → IsAscending ks → AreBelow ks start count → answer ≡ slice_get ks count → IsLeastFrom (is_in ks) start answer
least_from ks start count answer up counted is = by_answer answer is
  where
    by_answer : (o : Option ℕ) → o ≡ slice_get ks count → IsLeastFrom (is_in ks) start o
    by_answer (Some j) at = least_some ks start count j up counted (sym at)
    by_answer None past = least_none ks start count counted (sym past)

-- ---- the greatest one below a position

pub greatest_none : (ks : List ℕ) (end count : ℕ) → AreBelow ks end count → count ≡ 0 → IsGreatestBelow (is_in ks) end None
greatest_none ks end count counted first = record {
  found = λ k is. absurd (none-some k is);
  no_other = λ k less after. false_from_ne_true (is_in ks k) (λ among. none k less (index_of ks k among).0 (index_of ks k among).1);
}
  where
    none : (k : ℕ) → k < end → (n : ℕ) → slice_get ks n ≡ Some k → ⊥
    none k less n there = omega (arith, first, short ks end count n k counted there less)

greatest_some : (ks : List ℕ) (end count i j : ℕ) → IsAscending ks → AreBelow ks end count → i + 1 ≡ count → slice_get ks i ≡ Some j → IsGreatestBelow (is_in ks) end (Some j)
greatest_some ks end count i j up counted last at = record {
  found = λ k is. (omega (arith, low ks end count i j counted at (omega (arith, last)), same_Some j k is), in-at ks i k (at ∙ is));
  no_other = λ k less after. false_from_ne_true (is_in ks k) (λ among. none k less (ltb-true j k after) (index_of ks k among).0 (index_of ks k among).1);
}
  where
    none : (k : ℕ) → k < end → j < k → (n : ℕ) → slice_get ks n ≡ Some k → ⊥
    none k less after n there = omega (arith, ascending-up_to ks n i k j up (omega (arith, last, short ks end count n k counted there less)) there at)

pub greatest_below : (ks : List ℕ) (end count : ℕ) (answer : Option ℕ) → IsAscending ks → count ≤ length ks → AreBelow ks end count → (count ≡ 0 → ⊥) → answer ≡ slice_get ks (count - 1) → IsGreatestBelow (is_in ks) end answer
greatest_below ks end count answer up within counted some is = by_answer answer is
  where
    before : count - 1 + 1 ≡ count
    before = omega (arith, some)

    inside : count - 1 < length ks
    inside = omega (arith, some, within)

    by_answer : (o : Option ℕ) → o ≡ slice_get ks (count - 1) → IsGreatestBelow (is_in ks) end o
    by_answer (Some j) at = greatest_some ks end count (count - 1) j up counted before (sym at)
    by_answer None past = absurd (none-some (get_or ks (count - 1) 0) (past ∙ slice_get-get_or ks (count - 1) 0 inside))
