-- The numbers that are in range, and those that are whole.
use Rattle.std.specs.Prelude.{ℕ, ◌+◌, ◌-◌, ◌==◌, ◌&&◌, ◌||◌, nat_le, List, [], ◌∷◌, length, reverse, Bool, true, false}
use Rattle.std.specs.Prelude.{Option, Some, None}
use Rattle.std.specs.List.{prefix_len}
use Rattle.lrs_decimal.specs.Numbers.{number_end}
use Rattle.lrs_decimal.specs.Parts.{all_digits, exponent_digits, point_right, point_left}
use Rattle.lrs_decimal.specs.declared.limits.TheConstants.{LARGEST_EXPONENT, LONGEST_SPELLING}
use Rattle.lrs_decimal.specs.declared.limits.TheConstants.{MOST_EXPONENT_DIGITS, MOST_SIGNIFICANT_DIGITS}

abbrev pub is_zero_digit : ℕ → Bool
is_zero_digit d = d == 48

abbrev pub leading_zeros : List ℕ → ℕ
leading_zeros ds = prefix_len is_zero_digit ds

abbrev pub trailing_zeros : List ℕ → ℕ
trailing_zeros ds = prefix_len is_zero_digit (reverse ds)

-- If some digit isn't zero: how many digits stand from the first to the last such digit.
abbrev pub significant_digits : List ℕ → ℕ
significant_digits ds = length ds - (leading_zeros ds + trailing_zeros ds)

-- each digit is zero
abbrev pub is_zero : List ℕ → Bool
is_zero ds = leading_zeros ds == length ds

-- With the zeros at the end of the digits taken into it, the exponent is at most `LARGEST_EXPONENT` from zero.
abbrev pub has_small_exponent : List ℕ → Bool
has_small_exponent spelling =
    let right = point_right spelling + trailing_zeros (all_digits spelling) in
    nat_le (point_left spelling) (right + LARGEST_EXPONENT) && nat_le right (point_left spelling + LARGEST_EXPONENT)

-- Of a number's spelling: it isn't too long, its exponent hasn't too many digits, and it is zero, or it hasn't too many
-- significant digits and has a small exponent.
abbrev pub is_in_range : List ℕ → Bool
is_in_range spelling =
    nat_le (length spelling) LONGEST_SPELLING && nat_le (length (exponent_digits spelling)) MOST_EXPONENT_DIGITS
    && (is_zero (all_digits spelling)
    || (nat_le (significant_digits (all_digits spelling)) MOST_SIGNIFICANT_DIGITS && has_small_exponent spelling))

-- Once the exponent has moved the point, nothing but zeros stands after it.
abbrev pub has_no_fraction : List ℕ → Bool
has_no_fraction spelling = is_zero (all_digits spelling)
    || nat_le (point_left spelling) (point_right spelling + trailing_zeros (all_digits spelling))

-- Of a number's spelling in range: it is a whole number.
unfoldable pub is_whole : List ℕ → Bool
is_whole spelling =
    nat_le (length spelling) LONGEST_SPELLING && nat_le (length (exponent_digits spelling)) MOST_EXPONENT_DIGITS
    && has_no_fraction spelling

-- nothing is left after the number
abbrev pub is_end : Option (List ℕ) → Bool
is_end None = false
is_end (Some []) = true
is_end (Some (b ∷ bs)) = false

-- the spelling of a number in range
unfoldable pub is_decimal : List ℕ → Bool
is_decimal spelling = is_end (number_end spelling) && is_in_range spelling
