-- The positions of a list, and the front of it that a page has.
use Rattle.std.proofs.Common.{◌≡◌, ◌<◌, ◌≤◌, ◌+◌, ◌-◌, ℕ, zero, suc, List, [], ◌∷◌, ◌++◌, length, take, drop, get_or, drop-cons, add-one, length-append, refl, sym, ◌∙◌, ap, subst, Option, Some, None, Bool, true, false, ◌&&◌, nat_lt, nat_le, min, arith}
use Rattle.std.specs.Prelude.{filter, reverse, slice_get, cond}
use Rattle.std.specs.List.{range_with_len}
use Rattle.std.proofs.Math.Seq.{take-append_seam}
use Rattle.std.proofs.lemmas.Bool.Decides.{nat_tests}
use Rattle.std.proofs.lemmas.Grind.{common_steps}
use Rattle.std.proofs.lemmas.List.{get_or-reverse, length-reverse, take_all}
use Rattle.std.proofs.lemmas.List.FromFn.{get_or-range_with_len, length-range_with_len}
use Rattle.std.proofs.lemmas.Option.{get_or_from_slice_get, same_Some, slice_get-get_or, slice_get_within}
use Rattle.xapi_pages.specs.Listings.{Page, first_page, last_of, positions_of}

-- ---- positions

pub position_up : (n i : ℕ) → i < n → slice_get (range_with_len 0 n) i ≡ Some i
position_up n i lt =
    let same : 0 + i ≡ i = omega arith in
    slice_get-get_or (range_with_len 0 n) i 0 (subst (λ m. i < m) (sym (length-range_with_len 0 n)) lt) ∙ ap (λ k. Some k) (get_or-range_with_len 0 n i 0 lt ∙ same)

pub position_down : (n i : ℕ) → i < n → slice_get (reverse (range_with_len 0 n)) i ≡ Some (n - 1 - i)
position_down n i lt =
    let long : length (range_with_len 0 n) ≡ n = length-range_with_len 0 n in
    let within : i < length (range_with_len 0 n) = subst (λ m. i < m) (sym long) lt in
    let there : n - 1 - i < n = omega (arith, lt) in
    let same : 0 + (n - 1 - i) ≡ n - 1 - i = omega arith in
    slice_get-get_or (reverse (range_with_len 0 n)) i 0 (subst (λ m. i < m) (sym (length-reverse (range_with_len 0 n))) within)
    ∙ ap (λ k. Some k) (get_or-reverse (range_with_len 0 n) i 0 within ∙ (ap (λ m. get_or (range_with_len 0 n) (m - 1 - i) 0) long ∙ (get_or-range_with_len 0 n (n - 1 - i) 0 there ∙ same)))

pub length-positions : (ascending : Bool) (n : ℕ) → length (positions_of ascending n) ≡ n
length-positions true n = length-range_with_len 0 n
length-positions false n = length-reverse (range_with_len 0 n) ∙ length-range_with_len 0 n

pub within : (ascending : Bool) (n i k : ℕ) → slice_get (positions_of ascending n) i ≡ Some k → i < n
within ascending n i k is = subst (λ m. i < m) (length-positions ascending n) (slice_get_within (positions_of ascending n) i k is)

-- which position stands at an index
pub is_up : (n i k : ℕ) → slice_get (positions_of true n) i ≡ Some k → k ≡ i
is_up n i k at = same_Some k i (sym at ∙ position_up n i (within true n i k at))

pub is_down : (n i k : ℕ) → slice_get (positions_of false n) i ≡ Some k → k ≡ n - 1 - i
is_down n i k at = same_Some k (n - 1 - i) (sym at ∙ position_down n i (within false n i k at))

-- it is one of them
pub position_within : (ascending : Bool) (n i k : ℕ) → slice_get (positions_of ascending n) i ≡ Some k → k < n
position_within true n i k at = let lt = within true n i k at in let same = is_up n i k at in omega arith
position_within false n i k at = let lt = within false n i k at in let same = is_down n i k at in omega arith

-- from an index on the positions come after one of them
pub behind_up : (n after first most i k : ℕ) → n ≤ most → first ≡ min (after + 1) most → slice_get (positions_of true n) i ≡ Some k → nat_lt after k ≡ nat_le first i
behind_up n after first most i k le is at =
    let lt : i < n = within true n i k at in
    let same : k ≡ i = is_up n i k at in
    ap (λ m. nat_lt after m) same ∙ by_test (nat_lt after i) refl lt
  where
    by_test : (b : Bool) → nat_lt after i ≡ b → i < n → b ≡ nat_le first i
    by_test true less lt = grind (arith, nat_tests)
    by_test false less lt = grind (arith, nat_tests)

pub behind_down : (n after first i k : ℕ) → first ≡ n - after → slice_get (positions_of false n) i ≡ Some k → nat_lt k after ≡ nat_le first i
behind_down n after first i k is at =
    let lt : i < n = within false n i k at in
    let same : k ≡ n - 1 - i = is_down n i k at in
    ap (λ m. nat_lt m after) same ∙ by_test (nat_lt (n - 1 - i) after) refl lt
  where
    by_test : (b : Bool) → nat_lt (n - 1 - i) after ≡ b → i < n → b ≡ nat_le first i
    by_test true less lt = grind (arith, nat_tests)
    by_test false less lt = grind (arith, nat_tests)

pub le_yes : (k n : ℕ) → k ≤ n → nat_le k n ≡ true
le_yes k n le = grind (arith, nat_tests)

pub le_no : (k n : ℕ) → n < k → nat_le k n ≡ false
le_no k n lt = grind (arith, nat_tests)

-- what is left from a position on
pub drop_at : {A : Type 0} (xs : List A) (i : ℕ) (x : A) → slice_get xs i ≡ Some x → drop i xs ≡ x ∷ drop (i + 1) xs
drop_at xs i x is =
    drop-cons xs i x (slice_get_within xs i x is)
    ∙ (ap (λ k. get_or xs i x ∷ drop k xs) (sym (add-one i)) ∙ ap (λ y. y ∷ drop (i + 1) xs) (get_or_from_slice_get xs i x x is))

-- ---- two filters

pub given_yes : {A : Type 0} (b l : A → Bool) (x : A) (xs : List A) → b x && l x ≡ true → filter b (filter l (x ∷ xs)) ≡ x ∷ filter b (filter l xs)
given_yes b l x xs is = by_tests (b x) (l x) refl refl is
  where
    by_tests : (t u : Bool) → b x ≡ t → l x ≡ u → t && u ≡ true → filter b (filter l (x ∷ xs)) ≡ x ∷ filter b (filter l xs)
    by_tests true true at_b at_l both = ap (λ ys. filter b ys) (ap (λ u. cond u (x ∷ filter l xs) (filter l xs)) at_l) ∙ ap (λ t. cond t (x ∷ filter b (filter l xs)) (filter b (filter l xs))) at_b
    by_tests true false at_b at_l both = cc both
    by_tests false u at_b at_l both = cc both

pub given_no : {A : Type 0} (b l : A → Bool) (x : A) (xs : List A) → b x && l x ≡ false → filter b (filter l (x ∷ xs)) ≡ filter b (filter l xs)
given_no b l x xs is = by_tests (b x) (l x) refl refl is
  where
    by_tests : (t u : Bool) → b x ≡ t → l x ≡ u → t && u ≡ false → filter b (filter l (x ∷ xs)) ≡ filter b (filter l xs)
    by_tests t false at_b at_l both = ap (λ ys. filter b ys) (ap (λ u. cond u (x ∷ filter l xs) (filter l xs)) at_l)
    by_tests false true at_b at_l both = ap (λ ys. filter b ys) (ap (λ u. cond u (x ∷ filter l xs) (filter l xs)) at_l) ∙ ap (λ t. cond t (x ∷ filter b (filter l xs)) (filter b (filter l xs))) at_b
    by_tests true true at_b at_l both = cc both

-- at the index of one that both let pass
pub next_given : {A : Type 0} (b l : A → Bool) (xs : List A) (i : ℕ) (x : A) → slice_get xs i ≡ Some x → b x && l x ≡ true
    → filter b (filter l (drop i xs)) ≡ x ∷ filter b (filter l (drop (i + 1) xs))
next_given b l xs i x at is = ap (λ ks. filter b (filter l ks)) (drop_at xs i x at) ∙ given_yes b l x (drop (i + 1) xs) is

-- at the index of one that isn't let pass
pub next_left_out : {A : Type 0} (b l : A → Bool) (xs : List A) (i : ℕ) (x : A) → slice_get xs i ≡ Some x → b x && l x ≡ false
    → filter b (filter l (drop i xs)) ≡ filter b (filter l (drop (i + 1) xs))
next_left_out b l xs i x at is = ap (λ ks. filter b (filter l ks)) (drop_at xs i x at) ∙ given_no b l x (drop (i + 1) xs) is

-- what stands before the first that comes after one is left out
pub skipped : {A : Type 0} (b l : A → Bool) (first : ℕ) (xs : List A) → ((i : ℕ) (x : A) → i < first → slice_get xs i ≡ Some x → b x ≡ false) → filter b (filter l (drop first xs)) ≡ filter b (filter l xs)
skipped b l zero xs out = refl
skipped b l (suc first) [] out = refl
skipped b l (suc first) (x ∷ xs) out = skipped b l first xs (λ i y lt at. out (suc i) y (omega arith) at) ∙ sym (given_no b l x xs (ap (λ t. t && l x) (out 0 x (omega arith) refl)))

-- what isn't let pass between two indexes is left out
pub between : {A : Type 0} (b l : A → Bool) (start i : ℕ) (xs : List A) → start ≤ i → ((j : ℕ) (x : A) → start ≤ j → j < i → slice_get xs j ≡ Some x → b x && l x ≡ false)
    → filter b (filter l (drop start xs)) ≡ filter b (filter l (drop i xs))
between b l zero zero xs le out = refl
between b l zero (suc i) [] le out = refl
between b l zero (suc i) (x ∷ xs) le out =
    given_no b l x xs (out 0 x (omega arith) (omega arith) refl) ∙ between b l zero i xs (omega arith) (λ j y from lt at. out (suc j) y (omega arith) (omega arith) at)
between b l (suc start) zero xs le out = absurd (omega arith)
between b l (suc start) (suc i) [] le out = refl
between b l (suc start) (suc i) (x ∷ xs) le out = between b l start i xs (omega arith) (λ j y from lt at. out (suc j) y (omega arith) (omega arith) at)

-- ---- a page

-- as positions and a link
abbrev pub page_with : List ℕ → Option ℕ → Page
page_with ks link = record { positions = ks; link = link }

-- it is full, and something follows it
pub page_full : (size : ℕ) (ks rest : List ℕ) (k : ℕ) → length ks ≡ size → first_page size (ks ++ k ∷ rest) ≡ record { positions = ks; link = last_of ks }
page_full size ks rest k long =
    let front : take size (ks ++ k ∷ rest) ≡ ks = ap (λ n. take n (ks ++ k ∷ rest)) (sym long) ∙ take-append_seam ks (k ∷ rest) in
    let more : nat_lt size (length (ks ++ k ∷ rest)) ≡ true = is_more (length (ks ++ k ∷ rest)) (omega (arith, long, length-append ks (k ∷ rest))) in
    rw (front, more) refl
  where
    is_more : (n : ℕ) → size < n → nat_lt size n ≡ true
    is_more n long = grind (arith, common_steps)

-- nothing follows it
pub page_last : (size : ℕ) (ks : List ℕ) → length ks ≤ size → first_page size ks ≡ record { positions = ks; link = None }
page_last size ks short =
    let front : take size ks ≡ ks = take_all size ks short in
    let none : nat_lt size (length ks) ≡ false = is_none (length ks) short in
    rw (front, none) refl
  where
    is_none : (n : ℕ) → n ≤ size → nat_lt size n ≡ false
    is_none n short = grind (arith, common_steps)

-- the page that is full, and the one that nothing follows, of all that is listed
pub full_page : (size : ℕ) (ks rest all : List ℕ) (k : ℕ) (link : Option ℕ) → length ks ≡ size → link ≡ last_of ks → ks ++ k ∷ rest ≡ all → page_with ks link ≡ first_page size all
full_page size ks rest all k link long is whole = ap (λ o. page_with ks o) is ∙ (sym (page_full size ks rest k long) ∙ ap (λ js. first_page size js) whole)

pub last_page : (size : ℕ) (ks all : List ℕ) → length ks ≤ size → ks ≡ all → page_with ks None ≡ first_page size all
last_page size ks all short whole = sym (page_last size ks short) ∙ ap (λ js. first_page size js) whole
