-- What holds of each item of a list, of the item at an index, and of what an option holds.
use Rattle.std.proofs.Common.{◌≡◌, ℕ, zero, suc, ◌<◌, List, [], ◌∷◌, ◌++◌, length, Bool, true, false, Option, Some, None, IfSome, cond, refl, subst, ◌∙◌, arith}
use Rattle.std.specs.Prelude.{filter_map, find, option_and_then, option_map, slice_get}
use Rattle.std.specs.List.{AllByRecursion, cons_option}
use Rattle.std.proofs.lemmas.Option.{slice_get_within}
use Rattle.lrs_register.specs.Register.{with_first}

-- ---- each

pub each_weaker : {A : Type 0} (P Q : A → Type 0) → ((x : A) → P x → Q x) → (xs : List A) → AllByRecursion P xs → AllByRecursion Q xs
each_weaker P Q from [] each = tt
each_weaker P Q from (x ∷ xs) each = (from x each.0, each_weaker P Q from xs each.1)

pub each_push : {A : Type 0} (P : A → Type 0) (xs : List A) (y : A) → AllByRecursion P xs → P y → AllByRecursion P (xs ++ y ∷ [])
each_push P [] y each last = (last, tt)
each_push P (x ∷ xs) y each last = (each.0, each_push P xs y each.1 last)

pub each_append : {A : Type 0} (P : A → Type 0) (xs ys : List A) → AllByRecursion P xs → AllByRecursion P ys → AllByRecursion P (xs ++ ys)
each_append P [] ys first next = next
each_append P (x ∷ xs) ys first next = (first.0, each_append P xs ys first.1 next)

pub each_front : {A : Type 0} (P : A → Type 0) (xs ys : List A) → AllByRecursion P (xs ++ ys) → AllByRecursion P xs
each_front P [] ys each = tt
each_front P (x ∷ xs) ys each = (each.0, each_front P xs ys each.1)

pub each_first : {A : Type 0} (P : A → Type 0) (p : A → Bool) (y : A) (xs : List A) → AllByRecursion P xs → P y → AllByRecursion P (with_first p y xs)
each_first P p y [] each there = tt
each_first {A} P p y (x ∷ xs) each there = by_test (p x) (each_first P p y xs each.1 there)
  where
    by_test : (b : Bool) → AllByRecursion P (with_first p y xs) → AllByRecursion P (cond b (y ∷ xs) (x ∷ with_first p y xs))
    by_test true more = (there, each.1)
    by_test false more = (each.0, more)

pub each_found : {A : Type 0} (P : A → Type 0) (p : A → Bool) (xs : List A) (x : A) → AllByRecursion P xs → find p xs ≡ Some x → P x
each_found P p [] x each is = cc is
each_found {A} P p (y ∷ xs) x each is = by_test (p y) is (λ later. each_found P p xs x each.1 later)
  where
    by_test : (b : Bool) → cond b (Some y) (find p xs) ≡ Some x → (find p xs ≡ Some x → P x) → P x
    by_test true at more = let same : y ≡ x = cc at in subst P same each.0
    by_test false at more = more at

-- what is found passes
pub found_passes : {A : Type 0} (p : A → Bool) (xs : List A) (x : A) → find p xs ≡ Some x → p x ≡ true
found_passes p [] x is = cc is
found_passes {A} p (y ∷ xs) x is = by_test (p y) refl is (λ later. found_passes p xs x later)
  where
    by_test : (b : Bool) → p y ≡ b → cond b (Some y) (find p xs) ≡ Some x → (find p xs ≡ Some x → p x ≡ true) → p x ≡ true
    by_test true here at more = let same : y ≡ x = cc at in subst (λ z. p z ≡ true) same here
    by_test false here at more = more at

-- what holds of all that is given
pub each_given : {A B : Type 0} (P : B → Type 0) (f : A → Option B) → ((x : A) → IfSome (f x) P) → (xs : List A) → AllByRecursion P (filter_map f xs)
each_given P f given [] = tt
each_given {A} {B} P f given (x ∷ xs) = by_some (f x) (given x) (each_given P f given xs)
  where
    by_some : (o : Option B) → IfSome o P → AllByRecursion P (filter_map f xs) → AllByRecursion P (cons_option o (filter_map f xs))
    by_some None is rest = rest
    by_some (Some y) is rest = (is, rest)

-- ---- what an option holds

pub all_then : {A B : Type 0} (P : B → Type 0) (f : A → Option B) (o : Option A) → ((x : A) → IfSome (f x) P) → IfSome (option_and_then f o) P
all_then P f None each = tt
all_then P f (Some x) each = each x

pub all_mapped : {A B : Type 0} (P : B → Type 0) (f : A → B) (o : Option A) → ((x : A) → P (f x)) → IfSome (option_map f o) P
all_mapped P f None each = tt
all_mapped P f (Some x) each = each x

-- ---- the one at an index

pub each_at : {A : Type 0} (P : A → Type 0) (xs : List A) (k : ℕ) (x : A) → AllByRecursion P xs → slice_get xs k ≡ Some x → P x
each_at P [] k x each is = cc is
each_at P (y ∷ xs) zero x each is = let same : y ≡ x = cc is in subst P same each.0
each_at P (y ∷ xs) (suc k) x each is = each_at P xs k x each.1 is

pub item_there : {A : Type 0} (xs : List A) (k : ℕ) → k < length xs → (x : A) × (slice_get xs k ≡ Some x)
item_there [] k less = absurd (omega (arith, less))
item_there (x ∷ xs) zero less = (x, refl)
item_there (x ∷ xs) (suc k) less = item_there xs k (omega (arith, less))

pub slice_get-append : {A : Type 0} (xs ys : List A) (k : ℕ) → k < length xs → slice_get (xs ++ ys) k ≡ slice_get xs k
slice_get-append [] ys k lt = absurd (omega (arith, lt))
slice_get-append (x ∷ xs) ys zero lt = refl
slice_get-append (x ∷ xs) ys (suc k) lt = slice_get-append xs ys k (omega (arith, lt))

-- it is there still where more items come
pub item_still : {A : Type 0} (xs ys : List A) (k : ℕ) (x : A) → slice_get xs k ≡ Some x → slice_get (xs ++ ys) k ≡ Some x
item_still xs ys k x is = slice_get-append xs ys k (slice_get_within xs k x is) ∙ is
