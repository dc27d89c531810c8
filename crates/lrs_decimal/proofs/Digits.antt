-- Whole numbers of digits.
use Rattle.std.proofs.Common.{◌≡◌, ◌≢◌, ◌≤◌, ◌<◌, ℕ, zero, suc, ◌+◌, ◌-◌, ◌*◌, ◌^◌, List, [], ◌∷◌, ◌++◌, length, take, drop, reverse, get_or, Bool, true, false, cond, eqb, refl, sym, ap, ◌∙◌, subst, arith, length-append, length-drop, add-zero}
use Rattle.std.proofs.lemmas.Grind.{common_steps}
use Rattle.std.proofs.lemmas.List.{reverse-append, reverse-reverse, length-reverse}
use mathlib.Core.List.{reverse-cons}
use Rattle.std.proofs.lemmas.List.Folds.{length-prefix_len, prefix_len-append}
use Rattle.std.proofs.lemmas.List.Sums.{prefix_len-le-length}
use Rattle.std.proofs.Math.Nat.{mul-le-mul_right, mul_assoc, mul_comm, mul-one, one-mul, zero-mul}
use Rattle.lrs_decimal.specs.Range.{is_zero_digit, leading_zeros, trailing_zeros, significant_digits}
use Rattle.lrs_decimal.proofs.Runs.{run, behind, Each-run, run-behind, take_front}
use Rattle.std.proofs.Math.Seq.{drop-cons}
use Rattle.std.proofs.Math.Nat.{pow-le-pow_right, pow-suc}
use Rattle.std.specs.List.{filter}
use Rattle.lrs_decimal.specs.Numbers.{is_digit, Each}
use Rattle.lrs_decimal.specs.Parts.{digits_behind, digits_value}
use Rattle.lrs_decimal.specs.declared.limits.TheConstants.{MOST_SIGNIFICANT_DIGITS}

-- more digits make no smaller number
pub behind_grows : (n : ℕ) (ds : List ℕ) → n ≤ digits_behind n ds
behind_grows n [] = omega arith
behind_grows n (d ∷ ds) = let h = behind_grows (n * 10 + (d - 48)) ds in omega (arith, h)

digit_step_at : (b : ℕ) (ys : List ℕ) (v left total : ℕ) → is_digit b ≡ true → left ≢ 0 → total ≡ digits_behind v (take left (filter is_digit (b ∷ ys))) → total ≡ digits_behind (v * 10 + (b - 48)) (take (left - 1) (filter is_digit ys))
digit_step_at b ys v zero total d some e = absurd (some refl)
digit_step_at b ys v (suc left) total d some e =
    let one : suc left - 1 ≡ left = omega arith in
    e ∙ ap (λ t. digits_behind v (take (suc left) (cond t (b ∷ filter is_digit ys) (filter is_digit ys)))) d ∙ ap (λ k. digits_behind (v * 10 + (b - 48)) (take k (filter is_digit ys))) (sym one)

-- a digit is taken into the number
pub digit_step : (m : List ℕ) (i v left total : ℕ) → i < length m → is_digit (get_or m i 0) ≡ true → left ≢ 0 → total ≡ digits_behind v (take left (filter is_digit (drop i m)))
    → total ≡ digits_behind (v * 10 + (get_or m i 0 - 48)) (take (left - 1) (filter is_digit (drop (i + 1) m)))
digit_step m i v left total l d some e =
    let one : suc i ≡ i + 1 = omega arith in
    let here : drop i m ≡ get_or m i 0 ∷ drop (i + 1) m = drop-cons m i 0 l ∙ ap (λ k. get_or m i 0 ∷ drop k m) one in
    digit_step_at (get_or m i 0) (drop (i + 1) m) v left total d some (e ∙ ap (λ z. digits_behind v (take left (filter is_digit z))) here)

-- and the number stays small
pub digit_fits : (v d total : ℕ) (ds : List ℕ) → total ≡ digits_behind (v * 10 + d) ds → total < 10 ^ 34 → v * 10 + d < 10 ^ 34
digit_fits v d total ds e l = let h = behind_grows (v * 10 + d) ds in omega (arith, h, e, l)

pub power_small : (i n : ℕ) → i < n → n ≤ 34 → 10 ^ i ≤ 10 ^ 33
power_small i n l m = pow-le-pow_right {n = 10} (omega arith) {i = i} {j = 33} (omega (arith, l, m))

-- ---- zeros at both ends

behind_append : (n : ℕ) (xs ys : List ℕ) → digits_behind n (xs ++ ys) ≡ digits_behind (digits_behind n xs) ys
behind_append n [] ys = refl
behind_append n (x ∷ xs) ys = behind_append (n * 10 + (x - 48)) xs ys

zero_step : (n z p : ℕ) → z ≡ 48 → (n * 10 + (z - 48)) * p ≡ n * (p * 10)
zero_step n z p e = let none : z - 48 ≡ 0 = omega (arith, e) in rw (none, add-zero (n * 10), mul_assoc n 10 p) (ap (λ k. n * k) (mul_comm 10 p))

zeros_behind : (n : ℕ) (ds : List ℕ) → Each is_zero_digit ds → digits_behind n ds ≡ n * 10 ^ length ds
zeros_behind n [] each = sym (mul-one n)
zeros_behind n (d ∷ ds) each =
    let z : d ≡ 48 = grind (arith, common_steps) in
    zeros_behind (n * 10 + (d - 48)) ds each.1 ∙ zero_step n d (10 ^ length ds) z ∙ ap (λ k. n * k) (sym (pow-suc 10 (length ds)))

-- digits spell a number below that power of ten
behind_below : (n : ℕ) (ds : List ℕ) → Each is_digit ds → digits_behind n ds < (n + 1) * 10 ^ length ds
behind_below n [] each = let e : (n + 1) * 1 ≡ n + 1 = omega arith in rw e (omega arith)
behind_below n (d ∷ ds) each =
    let h = behind_below (n * 10 + (d - 48)) ds each.1 in
    let small : n * 10 + (d - 48) + 1 ≤ (n + 1) * 10 = grind (arith, common_steps) in
    let more = mul-le-mul_right {m = n * 10 + (d - 48) + 1} {n = (n + 1) * 10} (10 ^ length ds) small in
    let power : (n + 1) * 10 * 10 ^ length ds ≡ (n + 1) * 10 ^ suc (length ds) = mul_assoc (n + 1) 10 (10 ^ length ds) ∙ ap (λ k. (n + 1) * k) (mul_comm 10 (10 ^ length ds) ∙ sym (pow-suc 10 (length ds))) in
    rw (← power) (omega (arith, h, more))

pub Each-append : (p : ℕ → Bool) (xs ys : List ℕ) → Each p xs → Each p ys → Each p (xs ++ ys)
Each-append p [] ys a b = b
Each-append p (x ∷ xs) ys a b = (a.0, Each-append p xs ys a.1 b)

Each-left : (p : ℕ → Bool) (xs ys : List ℕ) → Each p (xs ++ ys) → Each p xs
Each-left p [] ys a = tt
Each-left p (x ∷ xs) ys a = (a.0, Each-left p xs ys a.1)

Each-right : (p : ℕ → Bool) (xs ys : List ℕ) → Each p (xs ++ ys) → Each p ys
Each-right p [] ys a = a
Each-right p (x ∷ xs) ys a = Each-right p xs ys a.1

Each-reverse : (p : ℕ → Bool) (xs : List ℕ) → Each p xs → Each p (reverse xs)
Each-reverse p [] a = tt
Each-reverse p (x ∷ xs) a = subst (Each p) (sym (reverse-cons x xs)) (Each-append p (reverse xs) (x ∷ []) (Each-reverse p xs a.1) (a.0, tt))

Each-filter_at : (p : ℕ → Bool) (x : ℕ) (xs : List ℕ) (t : Bool) → p x ≡ t → Each p (filter p xs) → Each p (cond t (x ∷ filter p xs) (filter p xs))
Each-filter_at p x xs true e each = (e, each)
Each-filter_at p x xs false e each = each

pub Each-filter : (p : ℕ → Bool) (xs : List ℕ) → Each p (filter p xs)
Each-filter p [] = tt
Each-filter p (x ∷ xs) = Each-filter_at p x xs (p x) refl (Each-filter p xs)

-- what stands before the zeros at the end
abbrev core : List ℕ → List ℕ
core ds = reverse (behind is_zero_digit (reverse ds))

abbrev ending : List ℕ → List ℕ
ending ds = reverse (run is_zero_digit (reverse ds))

parted : (ds : List ℕ) → ds ≡ core ds ++ ending ds
parted ds = sym (reverse-reverse ds) ∙ ap reverse (run-behind is_zero_digit (reverse ds)) ∙ reverse-append (run is_zero_digit (reverse ds)) (behind is_zero_digit (reverse ds))

ending_zeros : (ds : List ℕ) → Each is_zero_digit (ending ds)
ending_zeros ds = Each-reverse is_zero_digit (run is_zero_digit (reverse ds)) (Each-run is_zero_digit (reverse ds))

ending_length : (ds : List ℕ) → length (ending ds) ≡ trailing_zeros ds
ending_length ds = length-reverse (run is_zero_digit (reverse ds)) ∙ length-prefix_len is_zero_digit (reverse ds)

front_taken : (a b ds : List ℕ) (z : ℕ) → ds ≡ a ++ b → length b ≡ z → take (length ds - z) ds ≡ a
front_taken a b ds z e l = let n : length ds - z ≡ length a = omega (arith, ap length e, length-append a b, l) in rw (n, e) (take_front a b)

core_taken : (ds : List ℕ) → take (length ds - trailing_zeros ds) ds ≡ core ds
core_taken ds = front_taken (core ds) (ending ds) ds (trailing_zeros ds) (parted ds) (ending_length ds)

-- the number without the zeros at the end, and a power of ten for them
pub digits_taken : (ds : List ℕ) → digits_value ds ≡ digits_value (take (length ds - trailing_zeros ds) ds) * 10 ^ trailing_zeros ds
digits_taken ds =
    ap digits_value (parted ds) ∙ behind_append 0 (core ds) (ending ds) ∙ zeros_behind (digits_value (core ds)) (ending ds) (ending_zeros ds)
    ∙ ap (λ k. digits_value (core ds) * 10 ^ k) (ending_length ds) ∙ ap (λ a. digits_value a * 10 ^ trailing_zeros ds) (sym (core_taken ds))

-- ---- the digits between the zeros

pub take_all : (bs : List ℕ) → take (length bs) bs ≡ bs
take_all bs = grind (arith, common_steps)

zeros_lead : (b : List ℕ) → Each is_zero_digit b → leading_zeros b ≡ length b
zeros_lead [] each = refl
zeros_lead (d ∷ b) each = let first : is_zero_digit d ≡ true = each.0 in rw first (let h = zeros_lead b each.1 in omega (arith, h))

-- digits of which each is zero spell zero
pub zeros_value : (ds : List ℕ) → leading_zeros ds ≡ length ds → digits_value ds ≡ 0
zeros_value ds e = zeros_behind 0 ds (subst (Each is_zero_digit) (ap (λ k. take k ds) e ∙ take_all ds) (Each-run is_zero_digit ds)) ∙ zero-mul (10 ^ length ds)

core_leads_at : (a b : List ℕ) (t : Bool) → eqb (leading_zeros a) (length a) ≡ t → Each is_zero_digit b → leading_zeros (a ++ b) ≢ length (a ++ b) → leading_zeros (a ++ b) ≡ leading_zeros a
core_leads_at a b true e zeros some =
    let all : leading_zeros (a ++ b) ≡ length a + leading_zeros b = prefix_len-append is_zero_digit a b ∙ ap (λ t. cond t (length a + leading_zeros b) (leading_zeros a)) e in
    absurd (some (all ∙ ap (λ k. length a + k) (zeros_lead b zeros) ∙ sym (length-append a b)))
core_leads_at a b false e zeros some = prefix_len-append is_zero_digit a b ∙ ap (λ t. cond t (length a + leading_zeros b) (leading_zeros a)) e

-- no zero leads further than what stands before the zeros at the end
core_leads : (a b : List ℕ) → Each is_zero_digit b → leading_zeros (a ++ b) ≢ length (a ++ b) → leading_zeros (a ++ b) ≡ leading_zeros a
core_leads a b zeros some = core_leads_at a b (eqb (leading_zeros a) (length a)) refl zeros some

core_below : (a : List ℕ) → Each is_digit a → leading_zeros a ≤ length a → digits_value a < 10 ^ (length a - leading_zeros a)
core_below a each l =
    let zeros = run is_zero_digit a in
    let rest = behind is_zero_digit a in
    let split = run-behind is_zero_digit a in
    let value : digits_value a ≡ digits_value rest =
    ap digits_value split ∙ behind_append 0 zeros rest ∙ ap (λ n. digits_behind n rest) (zeros_behind 0 zeros (Each-run is_zero_digit a) ∙ zero-mul (10 ^ length zeros)) in
    let size : length rest ≡ length a - leading_zeros a = length-drop (leading_zeros a) a in
    let below = behind_below 0 rest (Each-right is_digit zeros rest (subst (Each is_digit) split each)) in
    let one : (0 + 1) * 10 ^ length rest ≡ 10 ^ (length a - leading_zeros a) = one-mul (10 ^ length rest) ∙ ap (λ k. 10 ^ k) size in
    omega (arith, value, below, one)

-- so many significant digits at most spell a number below that power of ten
pub window_small : (ds : List ℕ) → Each is_digit ds → leading_zeros ds ≢ length ds → significant_digits ds ≤ MOST_SIGNIFICANT_DIGITS → digits_value (take (length ds - trailing_zeros ds) ds) < 10 ^ MOST_SIGNIFICANT_DIGITS
window_small ds each some few =
    let a = core ds in
    let b = ending ds in
    let split = parted ds in
    let lead : leading_zeros ds ≡ leading_zeros a = ap leading_zeros split ∙ core_leads a b (ending_zeros ds) (subst (λ z. leading_zeros z ≢ length z) split some) in
    let size : length ds ≡ length a + trailing_zeros ds = ap length split ∙ length-append a b ∙ ap (λ k. length a + k) (ending_length ds) in
    let below = core_below a (Each-left is_digit a b (subst (Each is_digit) split each)) (prefix_len-le-length is_zero_digit a) in
    let power = pow-le-pow_right {n = 10} (omega arith) {i = length a - leading_zeros a} {j = MOST_SIGNIFICANT_DIGITS} (omega (arith, few, lead, size)) in
    rw (core_taken ds) (omega (arith, below, power))
