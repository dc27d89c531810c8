-- Whether an item passes, by its index, and the first number of a list of indices.
use Rattle.std.proofs.Common.{◌≡◌, ◌<◌, ◌≤◌, ◌+◌, ℕ, List, [], ◌∷◌, refl, sym, ◌∙◌, ap, arith, Option, Some, None, Bool, true, false, cond, slice_get}
use Rattle.std.specs.Prelude.{position, find, is_some}
use Rattle.std.specs.List.{AllByRecursion, position_from}
use Rattle.std.proofs.lemmas.Iterator.Adapters.{position_from-zero}
use Rattle.std.proofs.lemmas.Option.{none-some, same_Some}
use Rattle.xapi_index.proofs.Firsts.{lt_no, lt_yes}
use Rattle.xapi_postings.specs.Ascending.{IsAscending, below}

-- ---- found or not

found_from : {A : Type 0} (p : A → Bool) (i : ℕ) (xs : List A) → is_some (position_from p i xs) ≡ is_some (find p xs)
found_from p i [] = refl
found_from p i (x ∷ xs) = by_test (p x) (found_from p (i + 1) xs)
  where
    by_test : (b : Bool) → is_some (position_from p (i + 1) xs) ≡ is_some (find p xs) → is_some (cond b (Some i) (position_from p (i + 1) xs)) ≡ is_some (cond b (Some x) (find p xs))
    by_test true more = refl
    by_test false more = more

-- something is found exactly where it has an index
pub found_at : {A : Type 0} (p : A → Bool) (xs : List A) (o : Option ℕ) → o ≡ position p xs → is_some o ≡ is_some (find p xs)
found_at p xs o is = ap (λ q. is_some q) (is ∙ position_from-zero p xs) ∙ found_from p 0 xs

-- ---- the first of a list of indices that is below a bound

-- what holds of each holds of each still
pub each_still : {A : Type 0} (P Q : A → Type 0) → ((x : A) → P x → Q x) → (xs : List A) → AllByRecursion P xs → AllByRecursion Q xs
each_still P Q still [] each = tt
each_still P Q still (x ∷ xs) each = (still x each.0, each_still P Q still xs each.1)

none_below : (n : ℕ) (ks : List ℕ) → AllByRecursion (λ k. n ≤ k) ks → below n ks ≡ []
none_below n [] each = refl
none_below n (k ∷ ks) each = ap (λ b. cond b (k ∷ below n ks) (below n ks)) (lt_no k n each.0) ∙ none_below n ks each.1

pub first_kept : (n : ℕ) (ks : List ℕ) (k : ℕ) → slice_get ks 0 ≡ Some k → k < n → Some k ≡ slice_get (below n ks) 0
first_kept n [] k at less = absurd (none-some k at)
first_kept n (j ∷ ks) k at less =
    let same : j ≡ k = same_Some j k at in
    sym (ap (λ b. slice_get (cond b (j ∷ below n ks) (below n ks)) 0) (lt_yes j n (omega arith)) ∙ at)

pub first_past : (n : ℕ) (ks : List ℕ) (k : ℕ) → IsAscending ks → slice_get ks 0 ≡ Some k → n ≤ k → None ≡ slice_get (below n ks) 0
first_past n [] k up at past = refl
first_past n (j ∷ ks) k up at past =
    let same : j ≡ k = same_Some j k at in
    let from : n ≤ j = omega arith in
    sym (ap (λ xs. slice_get xs 0) (none_below n (j ∷ ks) (from, each_still (λ i. j < i) (λ i. n ≤ i) (λ i less. omega arith) ks up.0)))

pub first_none : (n : ℕ) (ks : List ℕ) → slice_get ks 0 ≡ None → None ≡ slice_get (below n ks) 0
first_none n [] at = refl
first_none n (k ∷ ks) at = absurd (none-some k (sym at))
