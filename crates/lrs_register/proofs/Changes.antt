-- What stays as it is where a list is changed whose items are found by key.
use Rattle.std.proofs.Common.{◌≡◌, ◌+◌, ◌≤◌, suc, ℕ, List, [], ◌∷◌, ◌++◌, length, length-append, arith, refl, sym, ◌∙◌, ap, Option, Some, None, Bool, true, false, cond}
use Rattle.std.specs.Prelude.{position, if◌then◌else◌}
use Rattle.std.specs.List.{position_from}
use Rattle.std.proofs.lemmas.Iterator.Adapters.{position_from-zero}
use Rattle.lrs_register.specs.Changes.{with_change, with_replaced}
use Rattle.lrs_register.specs.Register.{with_first, with_new}
use Rattle.lrs_register.specs.declared.change.Change.{Change}
use Rattle.lrs_register.proofs.Firsts.{with_first-alike}

-- ---- tests that pass on the same items

from-alike : {A : Type 0} (p q : A → Bool) → ((x : A) → p x ≡ q x) → (i : ℕ) (xs : List A) → position_from p i xs ≡ position_from q i xs
from-alike p q alike i [] = refl
from-alike p q alike i (x ∷ xs) = ap (λ b. cond b (Some i) (position_from p (i + 1) xs)) (alike x) ∙ ap (λ o. cond (q x) (Some i) o) (from-alike p q alike (i + 1) xs)

pub position-alike : {A : Type 0} (p q : A → Bool) → ((x : A) → p x ≡ q x) → (xs : List A) → position p xs ≡ position q xs
position-alike p q alike xs = position_from-zero p xs ∙ (from-alike p q alike 0 xs ∙ sym (position_from-zero q xs))

replaced-alike : {A : Type 0} (f g : A → A → Bool) → ((x y : A) → f x y ≡ g x y) → (xs : List A) (o : Option A) → with_replaced f xs o ≡ with_replaced g xs o
replaced-alike f g alike xs None = refl
replaced-alike f g alike xs (Some item) = with_first-alike (λ x. f x item) (λ x. g x item) item xs (λ x. alike x item)

pub change-alike : {A : Type 0} (f g : A → A → Bool) → ((x y : A) → f x y ≡ g x y) → (xs : List A) (change : Change A) → with_change f xs change ≡ with_change g xs change
change-alike f g alike xs change = replaced-alike f g alike (with_new xs change.new) change.replaced

-- ---- what is found keeps its index

from-more : {A : Type 0} (p : A → Bool) (i : ℕ) (xs ys : List A) (k : ℕ) → position_from p i xs ≡ Some k → position_from p i (xs ++ ys) ≡ Some k
from-more p i [] ys k is = cc is
from-more p i (x ∷ xs) ys k is = by_test (p x) (λ rest. from-more p (i + 1) xs ys k rest) is
  where
    by_test : (b : Bool) → (position_from p (i + 1) xs ≡ Some k → position_from p (i + 1) (xs ++ ys) ≡ Some k) → cond b (Some i) (position_from p (i + 1) xs) ≡ Some k
        → cond b (Some i) (position_from p (i + 1) (xs ++ ys)) ≡ Some k
    by_test true more at = at
    by_test false more at = more at

kept-new : {A : Type 0} (p : A → Bool) (xs : List A) (o : Option A) (k : ℕ) → position p xs ≡ Some k → position p (with_new xs o) ≡ Some k
kept-new p xs None k is = is
kept-new p xs (Some x) k is = position_from-zero p (xs ++ x ∷ []) ∙ from-more p 0 xs (x ∷ []) k (sym (position_from-zero p xs) ∙ is)

from-first : {A : Type 0} (p q : A → Bool) (y : A) → ((x : A) → q x ≡ true → p x ≡ p y) → (i : ℕ) (xs : List A) → position_from p i (with_first q y xs) ≡ position_from p i xs
from-first p q y alike i [] = refl
from-first p q y alike i (x ∷ xs) = by_test (q x) refl (from-first p q y alike (i + 1) xs)
  where
    by_test : (b : Bool) → q x ≡ b → position_from p (i + 1) (with_first q y xs) ≡ position_from p (i + 1) xs
        → position_from p i (if b then y ∷ xs else x ∷ with_first q y xs) ≡ position_from p i (x ∷ xs)
    by_test true at more = ap (λ b. cond b (Some i) (position_from p (i + 1) xs)) (sym (alike x at))
    by_test false at more = ap (λ o. cond (p x) (Some i) o) more

kept-replaced : {A : Type 0} (p : A → Bool) (under : A → A → Bool) → ((x y : A) → under x y ≡ true → p x ≡ p y) → (xs : List A) (o : Option A) → position p (with_replaced under xs o) ≡ position p xs
kept-replaced p under alike xs None = refl
kept-replaced p under alike xs (Some item) =
    position_from-zero p (with_first (λ x. under x item) item xs) ∙ (from-first p (λ x. under x item) item (λ x at. alike x item at) 0 xs ∙ sym (position_from-zero p xs))

-- where the test tells apart by key alone
pub position-kept : {A : Type 0} (p : A → Bool) (under : A → A → Bool) → ((x y : A) → under x y ≡ true → p x ≡ p y) → (xs : List A) (change : Change A) (k : ℕ) → position p xs ≡ Some k
    → position p (with_change under xs change) ≡ Some k
position-kept p under alike xs change k is = kept-replaced p under alike (with_new xs change.new) change.replaced ∙ kept-new p xs change.new k is

-- ---- at most one comes

length-first : {A : Type 0} (p : A → Bool) (y : A) (xs : List A) → length (with_first p y xs) ≡ length xs
length-first p y [] = refl
length-first p y (x ∷ xs) = by_test (p x) (length-first p y xs)
  where
    by_test : (b : Bool) → length (with_first p y xs) ≡ length xs → length (if b then y ∷ xs else x ∷ with_first p y xs) ≡ length (x ∷ xs)
    by_test true more = refl
    by_test false more = ap suc more

length-replaced : {A : Type 0} (under : A → A → Bool) (xs : List A) (o : Option A) → length (with_replaced under xs o) ≡ length xs
length-replaced under xs None = refl
length-replaced under xs (Some item) = length-first (λ x. under x item) item xs

length-new : {A : Type 0} (xs : List A) (o : Option A) → length (with_new xs o) ≤ length xs + 1
length-new xs None = omega arith
length-new xs (Some x) = omega (arith, length-append xs (x ∷ []))

pub length-change : {A : Type 0} (under : A → A → Bool) (xs : List A) (change : Change A) → length (with_change under xs change) ≤ length xs + 1
length-change under xs change = omega (arith, length-replaced under (with_new xs change.new) change.replaced, length-new xs change.new)
