-- The parts of a number's spelling: its digits before and after the point, and its exponent.
use Rattle.std.specs.Prelude.{ℕ, ◌+◌, ◌-◌, ◌*◌, ◌==◌, ◌||◌, not, List, [], ◌∷◌, length, take, drop, Bool, false}
use Rattle.std.specs.Prelude.{if◌then◌else◌}
use Rattle.std.specs.List.{prefix_len, filter}
use Rattle.lrs_decimal.specs.Numbers.{is_digit, unsigned}

abbrev pub is_point : ℕ → Bool
is_point b = b == 46

abbrev pub is_e : ℕ → Bool
is_e b = b == 101 || b == 69

-- the bytes before the first that passes, and the bytes after it
abbrev pub before : (ℕ → Bool) → List ℕ → List ℕ
before p bytes = take (prefix_len (λ b. not (p b)) bytes) bytes

abbrev pub behind_first : List ℕ → List ℕ
behind_first [] = []
behind_first (b ∷ bytes) = bytes

abbrev pub behind : (ℕ → Bool) → List ℕ → List ℕ
behind p bytes = behind_first (drop (prefix_len (λ b. not (p b)) bytes) bytes)

abbrev pub begins_with : ℕ → List ℕ → Bool
begins_with k [] = false
begins_with k (b ∷ bytes) = b == k

abbrev pub is_negative : List ℕ → Bool
is_negative spelling = begins_with 45 spelling

-- the digits before and after the point
abbrev pub all_digits : List ℕ → List ℕ
all_digits spelling = filter is_digit (before is_e spelling)

-- those after the point
abbrev pub fraction_digits : List ℕ → List ℕ
fraction_digits spelling = behind is_point (before is_e spelling)

abbrev pub exponent_digits : List ℕ → List ℕ
exponent_digits spelling = unsigned (behind is_e spelling)

abbrev pub has_negative_exponent : List ℕ → Bool
has_negative_exponent spelling = begins_with 45 (behind is_e spelling)

-- the whole number that the digits spell, after a number n
abbrev pub digits_behind : ℕ → List ℕ → ℕ
digits_behind n [] = n
digits_behind n (d ∷ ds) = digits_behind (n * 10 + (d - 48)) ds

abbrev pub digits_value : List ℕ → ℕ
digits_value ds = digits_behind 0 ds

-- The value is the whole number of all digits, with the point moved to the right, and then to the left.
abbrev pub point_right : List ℕ → ℕ
point_right spelling = if has_negative_exponent spelling then 0 else digits_value (exponent_digits spelling)

abbrev pub point_left : List ℕ → ℕ
point_left spelling = length (fraction_digits spelling)
    + (if has_negative_exponent spelling then digits_value (exponent_digits spelling) else 0)
