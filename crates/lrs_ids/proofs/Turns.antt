-- Loops over a list that stop at the first that passes: what is left of the list tells as much as the whole.
use Rattle.std.proofs.Common.{◌≡◌, ℕ, ◌+◌, ◌≤◌, List, [], ◌∷◌, length, drop, Bool, true, false, ◌&&◌, ◌||◌, sym, ap, ◌∙◌}
use Rattle.std.specs.List.{list_all, list_any}
use Rattle.std.proofs.lemmas.List.{at_drop_all}

-- what is found is found in the rest, where the next one tells nothing, else by the next one
pub next_passed : {A B : Type 0} (f : List A → B) (xs : List A) (i : ℕ) (x : A) (all : B) → drop i xs ≡ x ∷ drop (i + 1) xs → f (x ∷ drop (i + 1) xs) ≡ f (drop (i + 1) xs) → f (drop i xs) ≡ all → f (drop (i + 1) xs) ≡ all
next_passed f xs i x all at same before = sym (ap f at ∙ same) ∙ before

pub next_found : {A B : Type 0} (f : List A → B) (xs : List A) (i : ℕ) (x : A) (found all : B) → drop i xs ≡ x ∷ drop (i + 1) xs → f (x ∷ drop (i + 1) xs) ≡ found → f (drop i xs) ≡ all → found ≡ all
next_found f xs i x found all at is before = sym (ap f at ∙ is) ∙ before

pub none_found : {A B : Type 0} (f : List A → B) (xs : List A) (i : ℕ) (all : B) → length xs ≤ i → f (drop i xs) ≡ all → f [] ≡ all
none_found f xs i all end before = sym (at_drop_all f xs i end) ∙ before

pub any_fails : {A : Type 0} (test : A → Bool) (x : A) (xs : List A) → test x ≡ false → list_any test (x ∷ xs) ≡ list_any test xs
any_fails test x xs is = ap (λ b. b || list_any test xs) is

pub any_passes : {A : Type 0} (test : A → Bool) (x : A) (xs : List A) → test x ≡ true → list_any test (x ∷ xs) ≡ true
any_passes test x xs is = ap (λ b. b || list_any test xs) is

pub all_passes : {A : Type 0} (test : A → Bool) (x : A) (xs : List A) → test x ≡ true → list_all test (x ∷ xs) ≡ list_all test xs
all_passes test x xs is = ap (λ b. b && list_all test xs) is

pub all_fails : {A : Type 0} (test : A → Bool) (x : A) (xs : List A) → test x ≡ false → list_all test (x ∷ xs) ≡ false
all_fails test x xs is = ap (λ b. b && list_all test xs) is
