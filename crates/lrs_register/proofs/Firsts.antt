-- The first item of a list that passes, its index, and another one put there.
use Rattle.std.proofs.Common.{◌≡◌, ◌+◌, ◌-◌, ◌≤◌, suc, slice_set, slice_get, nat_lt, subst, ℕ, List, [], ◌∷◌, ◌++◌, length, refl, sym, ◌∙◌, ap, arith, Option, Some, None, Bool, true, false, cond}
use Rattle.std.specs.Prelude.{position, find, option_and_then}
use Rattle.std.specs.List.{position_from, position_or_len}
use Rattle.std.specs.Option.{option_or}
use Rattle.std.proofs.lemmas.Grind.{common_steps}
use Rattle.std.proofs.lemmas.List.Folds.{find_at}
use Rattle.std.proofs.lemmas.Option.{slice_get_past}
use Rattle.std.proofs.lemmas.Iterator.Adapters.{position_from-zero}
use Rattle.lrs_register.specs.Register.{with_first}

position_from-push : {A : Type 0} (p : A → Bool) (i : ℕ) (xs : List A) (y : A) → position_from p i (xs ++ y ∷ []) ≡ option_or (position_from p i xs) (cond (p y) (Some (i + length xs)) None)
position_from-push p i [] y = ap (λ k. cond (p y) (Some k) None) (omega arith)
position_from-push p i (x ∷ xs) y = by_test (p x) (position_from-push p (i + 1) xs y)
  where
    by_test : (b : Bool) → position_from p (i + 1) (xs ++ y ∷ []) ≡ option_or (position_from p (i + 1) xs) (cond (p y) (Some (i + 1 + length xs)) None)
        → cond b (Some i) (position_from p (i + 1) (xs ++ y ∷ [])) ≡ option_or (cond b (Some i) (position_from p (i + 1) xs)) (cond (p y) (Some (i + length (x ∷ xs))) None)
    by_test true more = refl
    by_test false more = more ∙ ap (λ k. option_or (position_from p (i + 1) xs) (cond (p y) (Some k) None)) (omega arith)

-- after all others an item is the first that passes exactly where none of them does
pub position-push : {A : Type 0} (p : A → Bool) (xs : List A) (y : A) → position p (xs ++ y ∷ []) ≡ option_or (position p xs) (cond (p y) (Some (length xs)) None)
position-push p xs y =
    position_from-zero p (xs ++ y ∷ []) ∙ (position_from-push p 0 xs y
    ∙ (ap (λ o. option_or o (cond (p y) (Some (0 + length xs)) None)) (sym (position_from-zero p xs)) ∙ ap (λ k. option_or (position p xs) (cond (p y) (Some k) None)) (omega arith)))

with_first-from : {A : Type 0} (p : A → Bool) (y : A) (i : ℕ) (xs : List A) (k : ℕ) → position_from p i xs ≡ Some k → (i ≤ k) × (with_first p y xs ≡ slice_set xs (k - i) y)
with_first-from p y i [] k is = cc is
with_first-from p y i (x ∷ xs) k is = by_test (p x) is (λ more. with_first-from p y (i + 1) xs k more)
  where
    by_test : (b : Bool) → cond b (Some i) (position_from p (i + 1) xs) ≡ Some k
        → (position_from p (i + 1) xs ≡ Some k → (i + 1 ≤ k) × (with_first p y xs ≡ slice_set xs (k - (i + 1)) y))
        → (i ≤ k) × (cond b (y ∷ xs) (x ∷ with_first p y xs) ≡ slice_set (x ∷ xs) (k - i) y)
    by_test true here more =
        let at : i ≡ k = grind (arith, here) in
        let zero : 0 ≡ k - i = omega arith in
        (omega arith, subst (λ n. y ∷ xs ≡ slice_set (x ∷ xs) n y) zero refl)
    by_test false apart more =
        let rest = more apart in
        let next : suc (k - (i + 1)) ≡ k - i = omega arith in
        (omega arith, subst (λ n. x ∷ with_first p y xs ≡ slice_set (x ∷ xs) n y) next (ap (λ ys. x ∷ ys) rest.1))

with_first-none : {A : Type 0} (p : A → Bool) (y : A) (i : ℕ) (xs : List A) → position_from p i xs ≡ None → with_first p y xs ≡ xs
with_first-none p y i [] is = refl
with_first-none p y i (x ∷ xs) is = by_test (p x) is (λ more. with_first-none p y (i + 1) xs more)
  where
    by_test : (b : Bool) → cond b (Some i) (position_from p (i + 1) xs) ≡ None → (position_from p (i + 1) xs ≡ None → with_first p y xs ≡ xs)
        → cond b (y ∷ xs) (x ∷ with_first p y xs) ≡ x ∷ xs
    by_test true here more = cc here
    by_test false apart more = ap (λ ys. x ∷ ys) (more apart)

pub with_first-at : {A : Type 0} (p : A → Bool) (y : A) (xs : List A) (k : ℕ) → position p xs ≡ Some k → with_first p y xs ≡ slice_set xs k y
with_first-at p y xs k is =
    let all : k - 0 ≡ k = omega arith in
    subst (λ n. with_first p y xs ≡ slice_set xs n y) all (with_first-from p y 0 xs k (sym (position_from-zero p xs) ∙ is)).1

pub with_first-same : {A : Type 0} (p : A → Bool) (y : A) (xs : List A) → position p xs ≡ None → with_first p y xs ≡ xs
with_first-same p y xs is = with_first-none p y 0 xs (sym (position_from-zero p xs) ∙ is)

-- what stands at the first index that passes is the first item that does
pub position-item : {A : Type 0} (p : A → Bool) (xs : List A) → option_and_then (λ k. slice_get xs k) (position p xs) ≡ find p xs
position-item p xs = by_test (nat_lt (position_or_len p xs) (length xs)) refl
  where
    past : nat_lt (position_or_len p xs) (length xs) ≡ false → length xs ≤ position_or_len p xs
    past is = grind (arith, common_steps)

    by_test : (b : Bool) → nat_lt (position_or_len p xs) (length xs) ≡ b → option_and_then (λ k. slice_get xs k) (cond b (Some (position_or_len p xs)) None) ≡ find p xs
    by_test true is = sym (find_at p xs)
    by_test false is = sym (find_at p xs ∙ slice_get_past xs (position_or_len p xs) (past is))

-- what stands at the index of the first item that passes, and that there is none
pub item-at : {A : Type 0} (p : A → Bool) (xs : List A) (o : Option ℕ) (k : ℕ) → o ≡ Some k → o ≡ position p xs → slice_get xs k ≡ find p xs
item-at p xs o k at index = ap (λ q. option_and_then (λ i. slice_get xs i) q) (sym at ∙ index) ∙ position-item p xs

pub item-none : {A : Type 0} (p : A → Bool) (xs : List A) (o : Option ℕ) → o ≡ None → o ≡ position p xs → None ≡ find p xs
item-none p xs o none index = ap (λ q. option_and_then (λ i. slice_get xs i) q) (sym none ∙ index) ∙ position-item p xs

pub with_first-alike : {A : Type 0} (p q : A → Bool) (y : A) (xs : List A) → ((x : A) → p x ≡ q x) → with_first p y xs ≡ with_first q y xs
with_first-alike p q y [] alike = refl
with_first-alike p q y (x ∷ xs) alike = rw (alike x, with_first-alike p q y xs alike) refl
