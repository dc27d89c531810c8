-- Lists of positions in an order, and their pages.
use Rattle.std.proofs.Common.{◌≡◌, ℕ, zero, suc, ◌+◌, ◌-◌, ◌<◌, ◌≤◌, List, [], ◌∷◌, ◌++◌, length, take, drop, reverse, Bool, true, false, Option, Some, None, cond, refl, sym, ap, subst, ◌∙◌, arith, nat_lt, eqb}
use Rattle.std.specs.Prelude.{filter, slice_get, if◌then◌else◌}
use Rattle.std.specs.List.{AllByRecursion, IsDistinct, range_with_len}
use Rattle.std.proofs.lemmas.Bool.{false≢true, eqb-true}
use Rattle.std.proofs.lemmas.Bool.Decides.{nat_tests}
use Rattle.std.proofs.lemmas.List.{length-take-le, reverse-append}
use Rattle.xapi_pages.specs.Listings.{first_page, is_behind, last_of, positions_of}
use Rattle.lrs_laws.proofs.Lists.{each_at, each_push}
use Rattle.xapi_index.proofs.Firsts.{lt_no, lt_yes}

-- each of them comes after those before it
abbrev pub IsInOrder : Bool → List ℕ → Type 0
IsInOrder ascending [] = Unit {0}
IsInOrder ascending (k ∷ ks) = AllByRecursion (λ j. is_behind ascending (Some k) j ≡ true) ks × IsInOrder ascending ks

-- ---- the order

less : (a b : ℕ) → nat_lt a b ≡ true → a < b
less a b is = grind (arith, nat_tests)

-- nothing follows itself, and of two only one after the other
pub apart : (ascending : Bool) (j k : ℕ) → is_behind ascending (Some j) k ≡ true → is_behind ascending (Some k) j ≡ false
apart true j k is = let h = less j k is in lt_no k j (omega arith)
apart false j k is = let h = less k j is in lt_no j k (omega arith)

pub alone : (ascending : Bool) (k : ℕ) → is_behind ascending (Some k) k ≡ false
alone true k = lt_no k k (omega arith)
alone false k = lt_no k k (omega arith)

pub further : (ascending : Bool) (after : Option ℕ) (k j : ℕ) → is_behind ascending after k ≡ true → is_behind ascending (Some k) j ≡ true → is_behind ascending after j ≡ true
further ascending None k j first next = refl
further true (Some after) k j first next = let a = less after k first in let b = less k j next in lt_yes after j (omega arith)
further false (Some after) k j first next = let a = less k after first in let b = less j k next in lt_yes j after (omega arith)

-- ---- all positions are in order

above : (a n : ℕ) (b : ℕ) → b < a → AllByRecursion (λ j. is_behind true (Some b) j ≡ true) (range_with_len a n)
above a zero b lt = tt
above a (suc n) b lt = (lt_yes b a lt, above (a + 1) n b (omega arith))

range_in_order : (a n : ℕ) → IsInOrder true (range_with_len a n)
range_in_order a zero = tt
range_in_order a (suc n) = (above (a + 1) n a (omega arith), range_in_order (a + 1) n)

each_reversed : {A : Type 0} (P : A → Type 0) (xs : List A) → AllByRecursion P xs → AllByRecursion P (reverse xs)
each_reversed P [] each = tt
each_reversed P (x ∷ xs) each = subst (λ ys. AllByRecursion P ys) (sym (reverse-append (x ∷ []) xs)) (each_push P (reverse xs) x (each_reversed P xs each.1) each.0)

order_push : (ascending : Bool) (ks : List ℕ) (k : ℕ) → IsInOrder ascending ks → AllByRecursion (λ j. is_behind ascending (Some j) k ≡ true) ks → IsInOrder ascending (ks ++ k ∷ [])
order_push ascending [] k order last = (tt, tt)
order_push ascending (j ∷ ks) k order last = (each_push (λ i. is_behind ascending (Some j) i ≡ true) ks k order.0 last.0, order_push ascending ks k order.1 last.1)

turned : (ks : List ℕ) → IsInOrder true ks → IsInOrder false (reverse ks)
turned [] order = tt
turned (k ∷ ks) order =
    subst (λ js. IsInOrder false js) (sym (reverse-append (k ∷ []) ks))
    (order_push false (reverse ks) k (turned ks order.1) (each_reversed (λ j. is_behind false (Some j) k ≡ true) ks order.0))

pub positions_in_order : (ascending : Bool) (n : ℕ) → IsInOrder ascending (positions_of ascending n)
positions_in_order true n = range_in_order 0 n
positions_in_order false n = turned (range_with_len 0 n) (range_in_order 0 n)

pub each_filtered : {A : Type 0} (P : A → Type 0) (test : A → Bool) (xs : List A) → AllByRecursion P xs → AllByRecursion P (filter test xs)
each_filtered P test [] each = tt
each_filtered P test (x ∷ xs) each = by_test (test x) (each_filtered P test xs each.1)
  where
    by_test : (b : Bool) → AllByRecursion P (filter test xs) → AllByRecursion P (cond b (x ∷ filter test xs) (filter test xs))
    by_test true rest = (each.0, rest)
    by_test false rest = rest

pub filtered_in_order : (ascending : Bool) (test : ℕ → Bool) (ks : List ℕ) → IsInOrder ascending ks → IsInOrder ascending (filter test ks)
filtered_in_order ascending test [] order = tt
filtered_in_order ascending test (k ∷ ks) order = by_test (test k) (filtered_in_order ascending test ks order.1)
  where
    by_test : (b : Bool) → IsInOrder ascending (filter test ks) → IsInOrder ascending (cond b (k ∷ filter test ks) (filter test ks))
    by_test true rest = (each_filtered (λ j. is_behind ascending (Some k) j ≡ true) test ks order.0, rest)
    by_test false rest = rest

-- ---- what follows

filter_twice : (p q : ℕ → Bool) → ((k : ℕ) → p k ≡ true → q k ≡ true) → (ks : List ℕ) → filter p (filter q ks) ≡ filter p ks
filter_twice p q narrower [] = refl
filter_twice p q narrower (k ∷ ks) = by_tests (q k) (p k) refl refl (filter_twice p q narrower ks)
  where
    by_tests : (a b : Bool) → q k ≡ a → p k ≡ b → filter p (filter q ks) ≡ filter p ks → filter p (cond a (k ∷ filter q ks) (filter q ks)) ≡ cond b (k ∷ filter p ks) (filter p ks)
    by_tests true true qk pk rest = ap (λ c. cond c (k ∷ filter p (filter q ks)) (filter p (filter q ks))) pk ∙ ap (λ js. k ∷ js) rest
    by_tests true false qk pk rest = ap (λ c. cond c (k ∷ filter p (filter q ks)) (filter p (filter q ks))) pk ∙ rest
    by_tests false true qk pk rest = absurd (false≢true (sym qk ∙ narrower k pk))
    by_tests false false qk pk rest = rest

filter_all : (test : ℕ → Bool) (ks : List ℕ) → AllByRecursion (λ k. test k ≡ true) ks → filter test ks ≡ ks
filter_all test [] each = refl
filter_all test (k ∷ ks) each = ap (λ b. cond b (k ∷ filter test ks) (filter test ks)) each.0 ∙ ap (λ js. k ∷ js) (filter_all test ks each.1)

-- after the last of the first ones come the others
rest_behind : (ascending : Bool) (ks : List ℕ) (m last : ℕ) → IsInOrder ascending ks → slice_get ks m ≡ Some last → filter (is_behind ascending (Some last)) ks ≡ drop (suc m) ks
rest_behind ascending [] m last order at = cc
rest_behind ascending (k ∷ ks) zero last order at =
    let e : k ≡ last = cc in
    subst (λ l. filter (is_behind ascending (Some l)) (k ∷ ks) ≡ ks) e
    (ap (λ b. cond b (k ∷ filter (is_behind ascending (Some k)) ks) (filter (is_behind ascending (Some k)) ks)) (alone ascending k) ∙ filter_all (is_behind ascending (Some k)) ks order.0)
rest_behind ascending (k ∷ ks) (suc m) last order at =
    ap (λ b. cond b (k ∷ filter (is_behind ascending (Some last)) ks) (filter (is_behind ascending (Some last)) ks))
    (apart ascending k last (each_at (λ j. is_behind ascending (Some k) j ≡ true) ks m last order.0 at))
    ∙ rest_behind ascending ks m last order.1 at

slice_get-take : {A : Type 0} (xs : List A) (m : ℕ) → slice_get (take (suc m) xs) m ≡ slice_get xs m
slice_get-take [] m = refl
slice_get-take (x ∷ xs) zero = refl
slice_get-take (x ∷ xs) (suc m) = slice_get-take xs m

pub last_at : (ks : List ℕ) (m : ℕ) → suc m ≤ length ks → last_of (take (suc m) ks) ≡ slice_get ks m
last_at ks m fits =
    let long : length (take (suc m) ks) - 1 ≡ m = omega (arith, length-take-le (suc m) ks fits) in
    ap (λ i. slice_get (take (suc m) ks) i) long ∙ slice_get-take ks m

-- ---- pages of a list

abbrev pub behind : Bool → Option ℕ → List ℕ → List ℕ
behind ascending after ks = filter (is_behind ascending after) ks

-- what a page with a link shows
pub record Links (ascending : Bool) (ks : List ℕ) (after : Option ℕ) (size last : ℕ) : Type 0 where
  pub more : size < length (behind ascending after ks)
  pub rest : behind ascending (Some last) ks ≡ drop size (behind ascending after ks)
  pub goes_on : is_behind ascending after last ≡ true
  pub there : slice_get (behind ascending after ks) (size - 1) ≡ Some last

filter_passes_at : (test : ℕ → Bool) (ks : List ℕ) → AllByRecursion (λ k. test k ≡ true) (filter test ks)
filter_passes_at test [] = tt
filter_passes_at test (k ∷ ks) = by_test (test k) refl (filter_passes_at test ks)
  where
    by_test : (b : Bool) → test k ≡ b → AllByRecursion (λ j. test j ≡ true) (filter test ks) → AllByRecursion (λ j. test j ≡ true) (cond b (k ∷ filter test ks) (filter test ks))
    by_test true is rest = (is, rest)
    by_test false is rest = rest

pub linked : (ascending : Bool) (ks : List ℕ) (after : Option ℕ) (size last : ℕ) → 0 < size → IsInOrder ascending ks → (first_page size (behind ascending after ks)).link ≡ Some last → Links ascending ks after size last
linked ascending ks after zero last some order is = absurd (omega arith)
linked ascending ks after (suc m) last some order is = by_length (nat_lt (suc m) (length (behind ascending after ks))) refl is
  where
    by_length : (b : Bool) → nat_lt (suc m) (length (behind ascending after ks)) ≡ b → (if b then last_of (take (suc m) (behind ascending after ks)) else None) ≡ Some last → Links ascending ks after (suc m) last
    by_length false none at = cc at
    by_length true more at =
        let fits : suc m < length (behind ascending after ks) = less (suc m) (length (behind ascending after ks)) more in
        let there : slice_get (behind ascending after ks) m ≡ Some last = sym (last_at (behind ascending after ks) m (omega arith)) ∙ at in
        let on : is_behind ascending after last ≡ true = each_at (λ k. is_behind ascending after k ≡ true) (behind ascending after ks) m last (filter_passes_at (is_behind ascending after) ks) there in record {
          more = fits;
          rest = sym (filter_twice (is_behind ascending (Some last)) (is_behind ascending after) (λ k. further ascending after last k on) ks)
              ∙ rest_behind ascending (behind ascending after ks) m last (filtered_in_order ascending (is_behind ascending after) ks order) there;
          goes_on = on;
          there = let one : suc m - 1 ≡ m = omega arith in ap (λ i. slice_get (behind ascending after ks) i) one ∙ there;
        }

take_all : (ks : List ℕ) (size : ℕ) → length ks ≤ size → take size ks ≡ ks
take_all [] zero fits = refl
take_all [] (suc size) fits = refl
take_all (k ∷ ks) zero fits = absurd (omega (arith, fits))
take_all (k ∷ ks) (suc size) fits = ap (λ js. k ∷ js) (take_all ks size (omega (arith, fits)))

-- a page without a link is all that was left
pub unlinked : (ks : List ℕ) (size : ℕ) → 0 < size → (first_page size ks).link ≡ None → take size ks ≡ ks
unlinked ks zero some is = absurd (omega arith)
unlinked ks (suc m) some is = by_length (nat_lt (suc m) (length ks)) refl is
  where
    there : {A : Type 0} (xs : List A) (i : ℕ) → i < length xs → slice_get xs i ≡ None → ⊥
    there [] i lt at = omega (arith, lt)
    there (x ∷ xs) zero lt at = cc at
    there (x ∷ xs) (suc i) lt at = there xs i (omega (arith, lt)) at

    by_length : (b : Bool) → nat_lt (suc m) (length ks) ≡ b → (if b then last_of (take (suc m) ks) else None) ≡ None → take (suc m) ks ≡ ks
    by_length true more at =
        let fits : suc m < length ks = less (suc m) (length ks) more in
        absurd (there ks m (omega arith) (sym (last_at ks m (omega arith)) ∙ at))
    by_length false none at = take_all ks (suc m) (at_most none)
      where
        at_most : nat_lt (suc m) (length ks) ≡ false → length ks ≤ suc m
        at_most is = grind (arith, nat_tests)

pub distinct_in_order : (ascending : Bool) (ks : List ℕ) → IsInOrder ascending ks → IsDistinct (λ j k. eqb j k) ks
unfolding IsDistinct
distinct_in_order ascending [] order = tt
distinct_in_order ascending (k ∷ ks) order = (each_differs ks order.0, distinct_in_order ascending ks order.1)
  where
    differs : (j : ℕ) → is_behind ascending (Some k) j ≡ true → eqb k j ≡ false
    differs j is = by_same (eqb k j) refl
      where
        by_same : (b : Bool) → eqb k j ≡ b → b ≡ false
        by_same true same =
            let e : k ≡ j = eqb-true k j same in
            absurd (false≢true (sym (alone ascending k) ∙ subst (λ i. is_behind ascending (Some k) i ≡ true) (sym e) is))
        by_same false same = refl

    each_differs : (js : List ℕ) → AllByRecursion (λ j. is_behind ascending (Some k) j ≡ true) js → AllByRecursion (λ j. eqb k j ≡ false) js
    each_differs [] each = tt
    each_differs (j ∷ js) each = (differs j each.0, each_differs js each.1)
