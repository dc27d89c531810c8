-- Ascending positions: those of the items that pass, those below a bound, and what stands where among them.
use Rattle.std.proofs.Common.{◌≡◌, ◌==◌, ◌<◌, ◌≤◌, ◌+◌, ◌⊎◌, ◌&&◌, ◌||◌, ℕ, zero, suc, nat_lt, Bool, true, false, cond, if◌then◌else◌, List, [], ◌∷◌, ◌++◌, length, take, slice_get, position, Some, is_some, refl, sym, ap, ◌∙◌, subst, inl, inr, arith, append-nil}
use Rattle.std.specs.List.{AllByRecursion, list_any, position_from}
use Rattle.std.specs.Option.{option_map_or}
use Rattle.std.proofs.lemmas.Bool.{and_right, cases_lt, eq-eqb, eqb-true, false≢true, le-ltb, lt-ltb, ne_eqb, or_right, true≢false}
use Rattle.std.proofs.lemmas.Iterator.Adapters.{position_from-zero}
use Rattle.std.proofs.lemmas.Option.{none-some, same_Some}
use Rattle.xapi_postings.specs.Ascending.{IsAscending, below, is_in, positions_from, positions_with}

none_on : (n : ℕ) → n ≡ 0 + n
none_on n = omega arith

one_on : (i n : ℕ) → i + suc n ≡ i + 1 + n
one_on i n = omega arith

stays : (i : ℕ) → i ≡ i + 0
stays i = omega arith

apart : (j k : ℕ) → k < j → j ≡ k → ⊥
apart j k less same = omega arith

passed : (i k : ℕ) → i ≡ i + suc k → ⊥
passed i k same = omega arith

-- ---- what holds of each

pub all-append : {A : Type 0} (P : A → Type 0) (xs : List A) (x : A) → AllByRecursion P xs → P x → AllByRecursion P (xs ++ x ∷ [])
all-append P [] x each is = (is, tt)
all-append P (y ∷ xs) x each is = (each.0, all-append P xs x each.1 is)

all-at : {A : Type 0} (P : A → Type 0) (xs : List A) (i : ℕ) (x : A) → AllByRecursion P xs → slice_get xs i ≡ Some x → P x
all-at P [] i x each at = absurd (none-some x at)
all-at P (y ∷ xs) zero x each at = subst P (same_Some y x at) each.0
all-at P (y ∷ xs) (suc i) x each at = all-at P xs i x each.1 at

-- ---- those below a bound

below-in : (n k : ℕ) (ks : List ℕ) → nat_lt k n ≡ true → below n (k ∷ ks) ≡ k ∷ below n ks
below-in n k ks within = ap (λ b. cond b (k ∷ below n ks) (below n ks)) within

below-out : (n k : ℕ) (ks : List ℕ) → nat_lt k n ≡ false → below n (k ∷ ks) ≡ below n ks
below-out n k ks past = ap (λ b. cond b (k ∷ below n ks) (below n ks)) past

-- all stay that are below the bound
pub below-all : (n : ℕ) (ks : List ℕ) → AllByRecursion (λ k. k < n) ks → below n ks ≡ ks
below-all n [] each = refl
below-all n (k ∷ ks) each = below-in n k ks (lt-ltb k n each.0) ∙ ap (λ js. k ∷ js) (below-all n ks each.1)

-- none is below the bound
pub none_below : (n : ℕ) (ks : List ℕ) → list_any (λ k. nat_lt k n) ks ≡ false → below n ks ≡ []
none_below n [] none = refl
none_below n (k ∷ ks) none = by_test (nat_lt k n) none (λ rest. none_below n ks rest)
  where
    by_test : (b : Bool) → (b || list_any (λ j. nat_lt j n) ks) ≡ false → (list_any (λ j. nat_lt j n) ks ≡ false → below n ks ≡ []) → cond b (k ∷ below n ks) (below n ks) ≡ []
    by_test true is more = absurd (true≢false is)
    by_test false is more = more is

-- one is below the bound
pub some_below : (n : ℕ) (ks : List ℕ) → list_any (λ k. nat_lt k n) ks ≡ true → 0 < length (below n ks)
some_below n [] some = absurd (false≢true some)
some_below n (k ∷ ks) some = by_test (nat_lt k n) some (λ rest. some_below n ks rest)
  where
    by_test : (b : Bool) → (b || list_any (λ j. nat_lt j n) ks) ≡ true → (list_any (λ j. nat_lt j n) ks ≡ true → 0 < length (below n ks)) → 0 < length (cond b (k ∷ below n ks) (below n ks))
    by_test true is more = omega arith
    by_test false is more = more is

is_in-cond : (b : Bool) (j : ℕ) (ks : List ℕ) (k : ℕ) → is_in (cond b (j ∷ ks) ks) k ≡ cond b ((j == k) || is_in ks k) (is_in ks k)
is_in-cond true j ks k = refl
is_in-cond false j ks k = refl

-- the first is below the bound or isn't, and is the one or isn't
is_in-step : (within here low among kept : Bool) → kept ≡ (low && among) → (here ≡ true → within ≡ low) → cond within (here || kept) kept ≡ (low && (here || among))
is_in-step true true low among kept more same = ap (λ b. b && true) (same refl)
is_in-step true false low among kept more same = more
is_in-step false true low among kept more same = more ∙ (ap (λ b. b && among) (sym (same refl)) ∙ ap (λ b. b && true) (same refl))
is_in-step false false low among kept more same = more

pub is_in-below : (n : ℕ) (ks : List ℕ) (k : ℕ) → is_in (below n ks) k ≡ (nat_lt k n && is_in ks k)
is_in-below n [] k = sym (and_right (nat_lt k n) false refl)
is_in-below n (j ∷ ks) k =
    is_in-cond (nat_lt j n) j (below n ks) k
    ∙ is_in-step (nat_lt j n) (j == k) (nat_lt k n) (is_in ks k) (is_in (below n ks) k) (is_in-below n ks k) (λ same. ap (λ m. nat_lt m n) (eqb-true j k same))

all-below : (n : ℕ) (P : ℕ → Type 0) (ks : List ℕ) → AllByRecursion P ks → AllByRecursion P (below n ks)
all-below n P [] each = tt
all-below n P (k ∷ ks) each = by_test (nat_lt k n) (all-below n P ks each.1)
  where
    by_test : (b : Bool) → AllByRecursion P (below n ks) → AllByRecursion P (cond b (k ∷ below n ks) (below n ks))
    by_test true more = (each.0, more)
    by_test false more = more

-- ---- in order

pub ascending-append : (ks : List ℕ) (k : ℕ) → IsAscending ks → AllByRecursion (λ j. j < k) ks → IsAscending (ks ++ k ∷ [])
ascending-append [] k up less = (tt, tt)
ascending-append (j ∷ ks) k up less = (all-append (λ m. j < m) ks k up.0 less.0, ascending-append ks k up.1 less.1)

pub ascending-below : (n : ℕ) (ks : List ℕ) → IsAscending ks → IsAscending (below n ks)
ascending-below n [] up = tt
ascending-below n (k ∷ ks) up = by_test (nat_lt k n) (all-below n (λ j. k < j) ks up.0) (ascending-below n ks up.1)
  where
    by_test : (b : Bool) → AllByRecursion (λ j. k < j) (below n ks) → IsAscending (below n ks) → IsAscending (cond b (k ∷ below n ks) (below n ks))
    by_test true behind more = (behind, more)
    by_test false behind more = more

-- of two indices the later one has the greater position
pub ascending-at : (ks : List ℕ) (i j a b : ℕ) → IsAscending ks → i < j → slice_get ks i ≡ Some a → slice_get ks j ≡ Some b → a < b
ascending-at [] i j a b up less at behind = absurd (none-some a at)
ascending-at (k ∷ ks) zero zero a b up less at behind = absurd (omega arith)
ascending-at (k ∷ ks) zero (suc j) a b up less at behind = subst (λ m. m < b) (same_Some k a at) (all-at (λ m. k < m) ks j b up.0 behind)
ascending-at (k ∷ ks) (suc i) zero a b up less at behind = absurd (omega arith)
ascending-at (k ∷ ks) (suc i) (suc j) a b up less at behind = ascending-at ks i j a b up.1 (omega arith) at behind

-- no later index has a lesser position
pub ascending-up_to : (ks : List ℕ) (i j a b : ℕ) → IsAscending ks → i ≤ j → slice_get ks i ≡ Some a → slice_get ks j ≡ Some b → a ≤ b
ascending-up_to ks i j a b up le at behind = by_case le (cases_lt i j)
  where
    one : i ≡ j → a ≡ b
    one same = same_Some a b (sym at ∙ (ap (λ m. slice_get ks m) same ∙ behind))

    by_case : i ≤ j → (i < j) ⊎ (j ≤ i) → a ≤ b
    by_case before (inl less) = omega (arith, ascending-at ks i j a b up less at behind)
    by_case before (inr over) = let same : i ≡ j = omega arith in omega (arith, one same)

-- ---- who is among them

-- what all of them come behind isn't among them
pub not_in-behind : (k : ℕ) (ks : List ℕ) → AllByRecursion (λ j. k < j) ks → is_in ks k ≡ false
not_in-behind k [] behind = refl
not_in-behind k (j ∷ ks) behind = ap (λ b. b || is_in ks k) (ne_eqb j k (apart j k behind.0)) ∙ not_in-behind k ks behind.1

-- what stands at an index is among them
pub in-at : (ks : List ℕ) (i k : ℕ) → slice_get ks i ≡ Some k → is_in ks k ≡ true
in-at [] i k at = absurd (none-some k at)
in-at (j ∷ ks) zero k at = ap (λ b. b || is_in ks k) (eq-eqb j k (same_Some j k at))
in-at (j ∷ ks) (suc i) k at = or_right (j == k) (is_in ks k) (in-at ks i k at)

-- what is among them stands at an index
pub index_of : (ks : List ℕ) (k : ℕ) → is_in ks k ≡ true → (i : ℕ) × (slice_get ks i ≡ Some k)
index_of [] k among = absurd (false≢true among)
index_of (j ∷ ks) k among = by_test (j == k) refl among (λ rest. index_of ks k rest)
  where
    by_test : (b : Bool) → (j == k) ≡ b → (b || is_in ks k) ≡ true → (is_in ks k ≡ true → (i : ℕ) × (slice_get ks i ≡ Some k)) → (i : ℕ) × (slice_get (j ∷ ks) i ≡ Some k)
    by_test true same is more = (zero, ap Some (eqb-true j k same))
    by_test false same is more = let there = more is in (suc there.0, there.1)

-- ---- the positions of the items that pass

from-append : {A : Type 0} (p : A → Bool) (i : ℕ) (xs : List A) (x : A) → positions_from p i (xs ++ x ∷ []) ≡ positions_from p i xs ++ (if p x then (i + length xs) ∷ [] else [])
from-append p i [] x = ap (λ k. if p x then k ∷ [] else []) (stays i)
from-append p i (y ∷ xs) x = by_test (p y) (from-append p (i + 1) xs x ∙ ap (λ k. positions_from p (i + 1) xs ++ (if p x then k ∷ [] else [])) (sym (one_on i (length xs))))
  where
    by_test : (b : Bool) → positions_from p (i + 1) (xs ++ x ∷ []) ≡ positions_from p (i + 1) xs ++ (if p x then (i + suc (length xs)) ∷ [] else [])
        → (if b then i ∷ positions_from p (i + 1) (xs ++ x ∷ []) else positions_from p (i + 1) (xs ++ x ∷ []))
        ≡ (if b then i ∷ positions_from p (i + 1) xs else positions_from p (i + 1) xs) ++ (if p x then (i + suc (length xs)) ∷ [] else [])
    by_test true more = ap (λ ks. i ∷ ks) more
    by_test false more = more

-- one item more, at the end
pub positions-append : {A : Type 0} (p : A → Bool) (xs : List A) (x : A) → positions_with p (xs ++ x ∷ []) ≡ (if p x then positions_with p xs ++ length xs ∷ [] else positions_with p xs)
positions-append p xs x = from-append p 0 xs x ∙ by_test (p x)
  where
    by_test : (b : Bool) → positions_from p 0 xs ++ (if b then (0 + length xs) ∷ [] else []) ≡ (if b then positions_from p 0 xs ++ length xs ∷ [] else positions_from p 0 xs)
    by_test true = ap (λ k. positions_from p 0 xs ++ k ∷ []) (sym (none_on (length xs)))
    by_test false = append-nil (positions_from p 0 xs)

none-from : {A : Type 0} (p : A → Bool) (n i : ℕ) (xs : List A) → n ≤ i → below n (positions_from p i xs) ≡ []
none-from p n i [] le = refl
none-from p n i (x ∷ xs) le = by_test (p x) (none-from p n (i + 1) xs (omega arith))
  where
    by_test : (b : Bool) → below n (positions_from p (i + 1) xs) ≡ [] → below n (if b then i ∷ positions_from p (i + 1) xs else positions_from p (i + 1) xs) ≡ []
    by_test true none = below-out n i (positions_from p (i + 1) xs) (le-ltb i n le) ∙ none
    by_test false none = none

from-below : {A : Type 0} (p : A → Bool) (i n : ℕ) (xs : List A) → below (i + n) (positions_from p i xs) ≡ positions_from p i (take n xs)
from-below p i zero xs = none-from p (i + 0) i xs (omega arith)
from-below p i (suc n) [] = refl
from-below p i (suc n) (x ∷ xs) =
    by_test (p x) (lt-ltb i (i + suc n) (omega arith)) (ap (λ m. below m (positions_from p (i + 1) xs)) (one_on i n) ∙ from-below p (i + 1) n xs)
  where
    by_test : (b : Bool) → nat_lt i (i + suc n) ≡ true → below (i + suc n) (positions_from p (i + 1) xs) ≡ positions_from p (i + 1) (take n xs)
        → below (i + suc n) (if b then i ∷ positions_from p (i + 1) xs else positions_from p (i + 1) xs) ≡ (if b then i ∷ positions_from p (i + 1) (take n xs) else positions_from p (i + 1) (take n xs))
    by_test true first more = below-in (i + suc n) i (positions_from p (i + 1) xs) first ∙ ap (λ ks. i ∷ ks) more
    by_test false first more = more

-- those below n are those of the first n items
pub positions-below : {A : Type 0} (p : A → Bool) (n : ℕ) (xs : List A) → below n (positions_with p xs) ≡ positions_with p (take n xs)
positions-below p n xs = ap (λ m. below m (positions_from p 0 xs)) (none_on n) ∙ from-below p 0 n xs

from-bounded : {A : Type 0} (p : A → Bool) (n i : ℕ) (xs : List A) → i + length xs ≤ n → AllByRecursion (λ k. k < n) (positions_from p i xs)
from-bounded p n i [] le = tt
from-bounded p n i (x ∷ xs) le = by_test (p x) (omega arith) (from-bounded p n (i + 1) xs (omega arith))
  where
    by_test : (b : Bool) → i < n → AllByRecursion (λ k. k < n) (positions_from p (i + 1) xs) → AllByRecursion (λ k. k < n) (if b then i ∷ positions_from p (i + 1) xs else positions_from p (i + 1) xs)
    by_test true first more = (first, more)
    by_test false first more = more

-- each is that of an item
pub positions-bounded : {A : Type 0} (p : A → Bool) (xs : List A) → AllByRecursion (λ k. k < length xs) (positions_with p xs)
positions-bounded p xs = from-bounded p (length xs) 0 xs (omega arith)

from-behind : {A : Type 0} (p : A → Bool) (k i : ℕ) (xs : List A) → k < i → AllByRecursion (λ j. k < j) (positions_from p i xs)
from-behind p k i [] less = tt
from-behind p k i (x ∷ xs) less = by_test (p x) (from-behind p k (i + 1) xs (omega arith))
  where
    by_test : (b : Bool) → AllByRecursion (λ j. k < j) (positions_from p (i + 1) xs) → AllByRecursion (λ j. k < j) (if b then i ∷ positions_from p (i + 1) xs else positions_from p (i + 1) xs)
    by_test true more = (less, more)
    by_test false more = more

from-ascending : {A : Type 0} (p : A → Bool) (i : ℕ) (xs : List A) → IsAscending (positions_from p i xs)
from-ascending p i [] = tt
from-ascending p i (x ∷ xs) = by_test (p x) (from-behind p i (i + 1) xs (omega arith)) (from-ascending p (i + 1) xs)
  where
    by_test : (b : Bool) → AllByRecursion (λ j. i < j) (positions_from p (i + 1) xs) → IsAscending (positions_from p (i + 1) xs) → IsAscending (if b then i ∷ positions_from p (i + 1) xs else positions_from p (i + 1) xs)
    by_test true behind more = (behind, more)
    by_test false behind more = more

pub positions-ascending : {A : Type 0} (p : A → Bool) (xs : List A) → IsAscending (positions_with p xs)
positions-ascending p xs = from-ascending p 0 xs

from-in : {A : Type 0} (p : A → Bool) (i : ℕ) (xs : List A) (k : ℕ) → is_in (positions_from p i xs) (i + k) ≡ option_map_or p (slice_get xs k) false
from-in p i [] k = refl
from-in p i (x ∷ xs) zero = by_test (p x) (eq-eqb i (i + 0) (stays i)) (not_in-behind (i + 0) (positions_from p (i + 1) xs) (from-behind p (i + 0) (i + 1) xs (omega arith)))
  where
    by_test : (b : Bool) → (i == (i + 0)) ≡ true → is_in (positions_from p (i + 1) xs) (i + 0) ≡ false
        → is_in (if b then i ∷ positions_from p (i + 1) xs else positions_from p (i + 1) xs) (i + 0) ≡ b
    by_test true here others = ap (λ t. t || is_in (positions_from p (i + 1) xs) (i + 0)) here
    by_test false here others = others
from-in p i (x ∷ xs) (suc k) =
    by_test (p x) (ne_eqb i (i + suc k) (passed i k)) (ap (λ m. is_in (positions_from p (i + 1) xs) m) (one_on i k) ∙ from-in p (i + 1) xs k)
  where
    by_test : (b : Bool) → (i == (i + suc k)) ≡ false → is_in (positions_from p (i + 1) xs) (i + suc k) ≡ option_map_or p (slice_get xs k) false
        → is_in (if b then i ∷ positions_from p (i + 1) xs else positions_from p (i + 1) xs) (i + suc k) ≡ option_map_or p (slice_get xs k) false
    by_test true other more = ap (λ t. t || is_in (positions_from p (i + 1) xs) (i + suc k)) other ∙ more
    by_test false other more = more

-- a position is one of them exactly where its item passes
pub is_in-positions : {A : Type 0} (p : A → Bool) (xs : List A) (k : ℕ) → is_in (positions_with p xs) k ≡ option_map_or p (slice_get xs k) false
is_in-positions p xs k = ap (λ m. is_in (positions_from p 0 xs) m) (none_on k) ∙ from-in p 0 xs k

from-first : {A : Type 0} (p : A → Bool) (i : ℕ) (xs : List A) → position_from p i xs ≡ slice_get (positions_from p i xs) 0
from-first p i [] = refl
from-first p i (x ∷ xs) = by_test (p x) (from-first p (i + 1) xs)
  where
    by_test : (b : Bool) → position_from p (i + 1) xs ≡ slice_get (positions_from p (i + 1) xs) 0
        → cond b (Some i) (position_from p (i + 1) xs) ≡ slice_get (if b then i ∷ positions_from p (i + 1) xs else positions_from p (i + 1) xs) 0
    by_test true more = refl
    by_test false more = more

-- the first item that passes has the first position
pub first-position : {A : Type 0} (p : A → Bool) (xs : List A) → position p xs ≡ slice_get (positions_with p xs) 0
first-position p xs = position_from-zero p xs ∙ from-first p 0 xs

from-any : {A : Type 0} (p : A → Bool) (i : ℕ) (xs : List A) → list_any p xs ≡ is_some (slice_get (positions_from p i xs) 0)
from-any p i [] = refl
from-any p i (x ∷ xs) = by_test (p x) (from-any p (i + 1) xs)
  where
    by_test : (b : Bool) → list_any p xs ≡ is_some (slice_get (positions_from p (i + 1) xs) 0)
        → (b || list_any p xs) ≡ is_some (slice_get (if b then i ∷ positions_from p (i + 1) xs else positions_from p (i + 1) xs) 0)
    by_test true more = refl
    by_test false more = more

-- an item passes exactly where there is a first position
pub any-positions : {A : Type 0} (p : A → Bool) (xs : List A) → list_any p xs ≡ is_some (slice_get (positions_with p xs) 0)
any-positions p xs = from-any p 0 xs
