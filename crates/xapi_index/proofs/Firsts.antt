-- What stands among the first items of a list.
use Rattle.std.proofs.Common.{◌≡◌, ◌<◌, ◌≤◌, ◌+◌, zero, suc, ℕ, List, [], ◌∷◌, take, refl, sym, ◌∙◌, ap, arith, Option, Some, None, Bool, true, false, cond, ◌||◌, nat_lt, slice_get}
use Rattle.std.specs.Prelude.{option_and_then, option_map, position, is_some}
use Rattle.std.specs.List.{list_any, position_from}
use Rattle.std.specs.Option.{option_map_or}
use Rattle.std.proofs.lemmas.Bool.Decides.{nat_tests}
use Rattle.std.proofs.lemmas.Iterator.Adapters.{position_from-zero}

lt-none : (k : ℕ) → nat_lt k 0 ≡ false
lt-none k = grind (arith, nat_tests)

lt-first : (n : ℕ) → nat_lt 0 (suc n) ≡ true
lt-first n = grind (arith, nat_tests)

lt-suc : (k n : ℕ) → nat_lt k n ≡ nat_lt (suc k) (suc n)
lt-suc k n = by_test (nat_lt k n) refl
  where
    by_test : (b : Bool) → nat_lt k n ≡ b → b ≡ nat_lt (suc k) (suc n)
    by_test true is = grind (arith, nat_tests)
    by_test false is = grind (arith, nat_tests)

pub lt_yes : (k n : ℕ) → k < n → nat_lt k n ≡ true
lt_yes k n lt = grind (arith, nat_tests)

pub lt_no : (k n : ℕ) → n ≤ k → nat_lt k n ≡ false
lt_no k n le = grind (arith, nat_tests)

from_suc : {A : Type 0} (p : A → Bool) (i : ℕ) (xs : List A) → position_from p (suc i) xs ≡ option_map suc (position_from p i xs)
from_suc p i [] = refl
from_suc p i (x ∷ xs) = by_test (p x) (from_suc p (i + 1) xs)
  where
    by_test : (b : Bool) → position_from p (suc (i + 1)) xs ≡ option_map suc (position_from p (i + 1) xs)
        → cond b (Some (suc i)) (position_from p (suc i + 1) xs) ≡ option_map suc (cond b (Some i) (position_from p (i + 1) xs))
    by_test true more = refl
    by_test false more = ap (λ k. position_from p k xs) (omega arith) ∙ more

-- an index, where it lies among the first n
abbrev below : ℕ → ℕ → Option ℕ
below n k = cond (nat_lt k n) (Some k) None

index_from : {A : Type 0} (p : A → Bool) (n : ℕ) (xs : List A) → position_from p 0 (take n xs) ≡ option_and_then (below n) (position_from p 0 xs)
index_from p zero xs = none (position_from p 0 xs)
  where
    none : (o : Option ℕ) → ◌≡◌ {A = Option ℕ} None (option_and_then (below 0) o)
    none None = refl
    none (Some k) = sym (ap (λ b. cond b (Some k) None) (lt-none k))
index_from p (suc n) [] = refl
index_from p (suc n) (x ∷ xs) = by_test (p x) (index_from p n xs)
  where
    next : (k : ℕ) (b : Bool) → nat_lt k n ≡ b → option_map suc (cond b (Some k) None) ≡ cond b (Some (suc k)) None
    next k true is = refl
    next k false is = refl

    one : (o : Option ℕ) → option_map suc (option_and_then (below n) o) ≡ option_and_then (below (suc n)) (option_map suc o)
    one None = refl
    one (Some k) = next k (nat_lt k n) refl ∙ ap (λ b. cond b (Some (suc k)) None) (lt-suc k n)

    by_test : (b : Bool) → position_from p 0 (take n xs) ≡ option_and_then (below n) (position_from p 0 xs)
        → cond b (Some 0) (position_from p 1 (take n xs)) ≡ option_and_then (below (suc n)) (cond b (Some 0) (position_from p 1 xs))
    by_test true more = sym (ap (λ b. cond b (Some 0) None) (lt-first n))
    by_test false more =
        from_suc p 0 (take n xs) ∙ (ap (λ o. option_map suc o) more ∙ (one (position_from p 0 xs) ∙ ap (λ o. option_and_then (below (suc n)) o) (sym (from_suc p 0 xs))))

index_in : {A : Type 0} (p : A → Bool) (n : ℕ) (xs : List A) → position p (take n xs) ≡ option_and_then (below n) (position p xs)
index_in p n xs = position_from-zero p (take n xs) ∙ (index_from p n xs ∙ ap (λ o. option_and_then (below n) o) (sym (position_from-zero p xs)))

-- the index of the first item that passes among the first n is the first index, where that lies among them
pub index_first : {A : Type 0} (p : A → Bool) (n : ℕ) (xs : List A) (o : Option ℕ) (k : ℕ) → o ≡ Some k → o ≡ position p xs → nat_lt k n ≡ true → Some k ≡ position p (take n xs)
index_first p n xs o k at is within = sym (index_in p n xs ∙ (ap (λ q. option_and_then (below n) q) (sym is ∙ at) ∙ ap (λ b. cond b (Some k) None) within))

pub index_past : {A : Type 0} (p : A → Bool) (n : ℕ) (xs : List A) (o : Option ℕ) (k : ℕ) → o ≡ Some k → o ≡ position p xs → nat_lt k n ≡ false → None ≡ position p (take n xs)
index_past p n xs o k at is past = sym (index_in p n xs ∙ (ap (λ q. option_and_then (below n) q) (sym is ∙ at) ∙ ap (λ b. cond b (Some k) None) past))

pub index_nowhere : {A : Type 0} (p : A → Bool) (n : ℕ) (xs : List A) (o : Option ℕ) → o ≡ None → o ≡ position p xs → None ≡ position p (take n xs)
index_nowhere p n xs o at is = sym (index_in p n xs ∙ ap (λ q. option_and_then (below n) q) (sym is ∙ at))

-- ---- whether one passes

any_from : {A : Type 0} (p : A → Bool) (i : ℕ) (xs : List A) → list_any p xs ≡ is_some (position_from p i xs)
any_from p i [] = refl
any_from p i (x ∷ xs) = by_test (p x) (any_from p (i + 1) xs)
  where
    by_test : (b : Bool) → list_any p xs ≡ is_some (position_from p (i + 1) xs) → (b || list_any p xs) ≡ is_some (cond b (Some i) (position_from p (i + 1) xs))
    by_test true more = refl
    by_test false more = more

pub any_index : {A : Type 0} (p : A → Bool) (xs : List A) (o : Option ℕ) → o ≡ position p xs → is_some o ≡ list_any p xs
any_index p xs o is = ap (λ q. is_some q) (is ∙ position_from-zero p xs) ∙ sym (any_from p 0 xs)

some_first : {A : Type 0} (p : A → Bool) (n : ℕ) (xs : List A) → list_any p (take n xs) ≡ option_map_or (λ k. nat_lt k n) (position_from p 0 xs) false
some_first p zero xs = none (position_from p 0 xs)
  where
    none : (o : Option ℕ) → false ≡ option_map_or (λ k. nat_lt k 0) o false
    none None = refl
    none (Some k) = sym (lt-none k)
some_first p (suc n) [] = refl
some_first p (suc n) (x ∷ xs) = by_test (p x) (some_first p n xs)
  where
    one : (o : Option ℕ) → option_map_or (λ k. nat_lt k n) o false ≡ option_map_or (λ k. nat_lt k (suc n)) (option_map suc o) false
    one None = refl
    one (Some k) = lt-suc k n

    by_test : (b : Bool) → list_any p (take n xs) ≡ option_map_or (λ k. nat_lt k n) (position_from p 0 xs) false
        → (b || list_any p (take n xs)) ≡ option_map_or (λ k. nat_lt k (suc n)) (cond b (Some 0) (position_from p 1 xs)) false
    by_test true more = sym (lt-first n)
    by_test false more = more ∙ (one (position_from p 0 xs) ∙ ap (λ o. option_map_or (λ k. nat_lt k (suc n)) o false) (sym (from_suc p 0 xs)))

-- one of the first n passes exactly where the first index lies among them
pub any_first : {A : Type 0} (p : A → Bool) (n : ℕ) (xs : List A) (o : Option ℕ) → o ≡ position p xs → option_map_or (λ k. nat_lt k n) o false ≡ list_any p (take n xs)
any_first p n xs o is = ap (λ q. option_map_or (λ k. nat_lt k n) q false) (is ∙ position_from-zero p xs) ∙ sym (some_first p n xs)

-- ---- by index

pub get_first : {A : Type 0} (n : ℕ) (xs : List A) (k : ℕ) → k < n → slice_get (take n xs) k ≡ slice_get xs k
get_first zero xs k lt = absurd (omega arith)
get_first (suc n) [] k lt = refl
get_first (suc n) (x ∷ xs) zero lt = refl
get_first (suc n) (x ∷ xs) (suc k) lt = get_first n xs k (omega arith)
