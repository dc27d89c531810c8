-- The decimal of a spelling in range.
use Rattle.std.proofs.Common.{◌≡◌, ◌≢◌, ◌<◌, ◌≤◌, ℕ, ◌+◌, ◌-◌, ◌*◌, ◌^◌, Bool, true, false, ◌&&◌, ◌||◌, nat_le, List, length, take, sym, ap, ◌∙◌, IsTrue, true≢false, ◌==◌, arith}
use Rattle.std.proofs.Math.Nat.{mul_assoc, zero-mul}
use Rattle.std.proofs.lemmas.Nat.{pow-add}
use Rattle.std.proofs.lemmas.Grind.{common_steps}
use Rattle.std.specs.Cmp.{first_so, second_so}
use Rattle.lrs_decimal.specs.Parts.{is_negative, all_digits, digits_value, exponent_digits, point_right, point_left}
use Rattle.lrs_decimal.specs.Range.{leading_zeros, trailing_zeros, significant_digits, has_small_exponent, is_in_range}
use Rattle.lrs_decimal.specs.Values.{signed, scaled}
use Rattle.lrs_decimal.specs.declared.limits.TheConstants.{LARGEST_EXPONENT, LONGEST_SPELLING, MOST_EXPONENT_DIGITS, MOST_SIGNIFICANT_DIGITS}
use Rattle.lrs_decimal.proofs.Digits.{digits_taken, zeros_value, window_small, Each-filter}
use Rattle.std.specs.List.{filter}
use Rattle.lrs_decimal.specs.Numbers.{is_digit}
use Rattle.lrs_decimal.specs.Parts.{before, is_e}
use Rattle.lrs_decimal.proofs.NumberLemmas.{not_eq}

-- what holds of a spelling in range
pub record InRange (s : List ℕ) : Type 0 where
  pub short : length s ≤ LONGEST_SPELLING
  pub few : length (exponent_digits s) ≤ MOST_EXPONENT_DIGITS
  pub small : leading_zeros (all_digits s) ≢ length (all_digits s) → significant_digits (all_digits s) ≤ MOST_SIGNIFICANT_DIGITS
  pub above : leading_zeros (all_digits s) ≢ length (all_digits s) → point_left s ≤ point_right s + trailing_zeros (all_digits s) + LARGEST_EXPONENT
  pub below : leading_zeros (all_digits s) ≢ length (all_digits s) → point_right s + trailing_zeros (all_digits s) ≤ point_left s + LARGEST_EXPONENT

or_right : (a b : Bool) → (a || b) ≡ true → a ≡ false → b ≡ true
or_right true b e f = absurd (true≢false f)
or_right false b e f = e

le_of : (m n : ℕ) → nat_le m n ≡ true → m ≤ n
le_of m n e = grind (arith, common_steps)

pub in_range : (s : List ℕ) → IsTrue (is_in_range s) → InRange s
in_range s t =
    let ds = all_digits s in
    let right = point_right s + trailing_zeros ds in
    let sizes : (nat_le (length s) LONGEST_SPELLING && nat_le (length (exponent_digits s)) MOST_EXPONENT_DIGITS) ≡ true = first_so (nat_le (length s) LONGEST_SPELLING && nat_le (length (exponent_digits s)) MOST_EXPONENT_DIGITS) _ t in
    let rest = second_so (nat_le (length s) LONGEST_SPELLING && nat_le (length (exponent_digits s)) MOST_EXPONENT_DIGITS) _ t in
    let value : leading_zeros ds ≢ length ds → (nat_le (significant_digits ds) MOST_SIGNIFICANT_DIGITS && has_small_exponent s) ≡ true = λ some. or_right (leading_zeros ds == length ds) _ rest (not_eq (leading_zeros ds) (length ds) some) in
    let exponent : leading_zeros ds ≢ length ds → has_small_exponent s ≡ true = λ some. second_so (nat_le (significant_digits ds) MOST_SIGNIFICANT_DIGITS) (has_small_exponent s) (value some) in
    record {
      short = le_of (length s) LONGEST_SPELLING (first_so (nat_le (length s) LONGEST_SPELLING) (nat_le (length (exponent_digits s)) MOST_EXPONENT_DIGITS) sizes);
      few = le_of (length (exponent_digits s)) MOST_EXPONENT_DIGITS (second_so (nat_le (length s) LONGEST_SPELLING) (nat_le (length (exponent_digits s)) MOST_EXPONENT_DIGITS) sizes);
      small = λ some. le_of (significant_digits ds) MOST_SIGNIFICANT_DIGITS (first_so (nat_le (significant_digits ds) MOST_SIGNIFICANT_DIGITS) (has_small_exponent s) (value some));
      above = λ some. le_of (point_left s) (right + LARGEST_EXPONENT) (first_so (nat_le (point_left s) (right + LARGEST_EXPONENT)) (nat_le right (point_left s + LARGEST_EXPONENT)) (exponent some));
      below = λ some. le_of right (point_left s + LARGEST_EXPONENT) (second_so (nat_le (point_left s) (right + LARGEST_EXPONENT)) (nat_le right (point_left s + LARGEST_EXPONENT)) (exponent some));
    }

signed_zero : (b : Bool) (n : ℕ) → n ≡ 0 → record { plus = 0; minus = 0 } ≡ signed b n
signed_zero true n e = ap (λ m. record { plus = 0; minus = m }) (sym e)
signed_zero false n e = ap (λ p. record { plus = p; minus = 0 }) (sym e)

-- zero, however it is spelled
pub zero_means : (s : List ℕ) (p : ℕ) → leading_zeros (all_digits s) ≡ length (all_digits s) → signed false (0 * 10 ^ p) ≡ scaled s (point_right s + LARGEST_EXPONENT)
zero_means s p e =
    let power = 10 ^ (point_right s + LARGEST_EXPONENT) in
    ap (signed false) (zero-mul (10 ^ p)) ∙ signed_zero (is_negative s) (digits_value (all_digits s) * power) (ap (λ v. v * power) (zeros_value (all_digits s) e) ∙ zero-mul power)

pub coefficient_small : (s : List ℕ) → InRange s → leading_zeros (all_digits s) ≢ length (all_digits s) → digits_value (take (length (all_digits s) - trailing_zeros (all_digits s)) (all_digits s)) < 10 ^ MOST_SIGNIFICANT_DIGITS
coefficient_small s r some = window_small (all_digits s) (Each-filter is_digit (before is_e s)) some (r.small some)

scale_small : (left right : ℕ) → right ≤ left + LARGEST_EXPONENT → right + LARGEST_EXPONENT - left ≤ 2 * LARGEST_EXPONENT
scale_small left right l = omega (arith, l)

-- the zeros at the end go into the power of ten
pub exact_means : (s : List ℕ) (b : Bool) (coefficient scale : ℕ) → b ≡ is_negative s → coefficient ≡ digits_value (take (length (all_digits s) - trailing_zeros (all_digits s)) (all_digits s))
    → scale ≡ point_right s + trailing_zeros (all_digits s) + LARGEST_EXPONENT - point_left s → point_left s ≤ point_right s + trailing_zeros (all_digits s) + LARGEST_EXPONENT
    → signed b (coefficient * 10 ^ (scale + point_left s)) ≡ scaled s (point_right s + LARGEST_EXPONENT)
exact_means s b coefficient scale eb ec es l =
    let z = trailing_zeros (all_digits s) in
    let right = point_right s + LARGEST_EXPONENT in
    let power : scale + point_left s ≡ z + right = omega (arith, es, l) in
    let value : coefficient * 10 ^ (z + right) ≡ digits_value (all_digits s) * 10 ^ right =
    ap (λ k. coefficient * k) (pow-add 10 z right) ∙ sym (mul_assoc coefficient (10 ^ z) (10 ^ right)) ∙ ap (λ k. k * 10 ^ z * 10 ^ right) ec ∙ ap (λ k. k * 10 ^ right) (sym (digits_taken (all_digits s))) in
    ap (λ t. signed t (coefficient * 10 ^ (scale + point_left s))) eb ∙ ap (λ k. signed (is_negative s) (coefficient * 10 ^ k)) power ∙ ap (signed (is_negative s)) value

-- what was counted in the mantissa, said of the spelling
pub record Counted (s mantissa : List ℕ) (digits leading : ℕ) : Type 0 where
  pub part : mantissa ≡ before is_e s
  pub digits_are : digits ≡ length (filter is_digit mantissa)
  pub leading_are : leading ≡ leading_zeros (filter is_digit mantissa)

pub all_zero : (s mantissa : List ℕ) (digits leading : ℕ) → Counted s mantissa digits leading → leading ≡ digits → leading_zeros (all_digits s) ≡ length (all_digits s)
all_zero s mantissa digits leading c e =
    ap (λ m. leading_zeros (filter is_digit m)) (sym c.part) ∙ sym c.leading_are ∙ e ∙ c.digits_are ∙ ap (λ m. length (filter is_digit m)) c.part

pub some_digit : (s mantissa : List ℕ) (digits leading : ℕ) → Counted s mantissa digits leading → leading ≢ digits → leading_zeros (all_digits s) ≢ length (all_digits s)
some_digit s mantissa digits leading c some e =
    some (c.leading_are ∙ ap (λ m. leading_zeros (filter is_digit m)) c.part ∙ e ∙ ap (λ m. length (filter is_digit m)) (sym c.part) ∙ sym c.digits_are)

-- the digits that are kept
pub kept : (s mantissa : List ℕ) (digits leading zeros keep : ℕ) → Counted s mantissa digits leading → zeros ≡ trailing_zeros (filter is_digit mantissa) → keep ≡ digits - zeros
    → digits_value (take keep (filter is_digit mantissa)) ≡ digits_value (take (length (all_digits s) - trailing_zeros (all_digits s)) (all_digits s))
kept s mantissa digits leading zeros keep c z k =
    let keep_is : keep ≡ length (filter is_digit mantissa) - trailing_zeros (filter is_digit mantissa) = k ∙ ap (λ d. d - zeros) c.digits_are ∙ ap (λ t. length (filter is_digit mantissa) - t) z in
    ap (λ n. digits_value (take n (filter is_digit mantissa))) keep_is
    ∙ ap (λ m. digits_value (take (length (filter is_digit m) - trailing_zeros (filter is_digit m)) (filter is_digit m))) c.part

pub small_scale : (s : List ℕ) (scale right left zeros : ℕ) → InRange s → leading_zeros (all_digits s) ≢ length (all_digits s) → right ≡ point_right s → left ≡ point_left s → zeros ≡ trailing_zeros (all_digits s)
    → scale ≡ right + zeros + LARGEST_EXPONENT - left → (scale ≡ point_right s + trailing_zeros (all_digits s) + LARGEST_EXPONENT - point_left s) × (scale ≤ 2 * LARGEST_EXPONENT)
small_scale s scale right left zeros r some er el ez e =
    let is : scale ≡ point_right s + trailing_zeros (all_digits s) + LARGEST_EXPONENT - point_left s = e ∙ ap (λ k. k + zeros + LARGEST_EXPONENT - left) er ∙ ap (λ k. point_right s + k + LARGEST_EXPONENT - left) ez ∙ ap (λ k. point_right s + trailing_zeros (all_digits s) + LARGEST_EXPONENT - k) el in
    (is, let h = scale_small (point_left s) (point_right s + trailing_zeros (all_digits s)) (r.below some) in omega (arith, is, h))
