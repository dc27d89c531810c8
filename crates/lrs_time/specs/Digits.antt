-- Digits as bytes of a text, and the numbers that they stand for.
use Rattle.std.specs.Prelude.{ℕ, ◌+◌, ◌-◌, ◌*◌, ◌/◌, ◌%◌, ◌^◌, ◌<◌, ◌≤◌, List, [], ◌∷◌, ◌++◌, length, take}
use Rattle.std.specs.Str.Parse.{AllDigits, digits_value}

-- a number below 100 in two digits
abbrev pub two_digits : ℕ → List ℕ
two_digits n = (48 + n / 10) ∷ (48 + n % 10) ∷ []

-- a number below 10000 in four digits
abbrev pub four_digits : ℕ → List ℕ
four_digits n = two_digits (n / 100) ++ two_digits (n % 100)

-- a number below 1000 in three digits
abbrev pub three_digits : ℕ → List ℕ
three_digits n = (48 + n / 100) ∷ two_digits (n % 100)

-- digits alone, at least one and at most so many
pub record IsNumeral (most : ℕ) (ds : List ℕ) : Type 0 where
  pub digits : AllDigits 10 ds
  pub some : 0 < length ds
  pub few : length ds ≤ most

-- The digits after a decimal point as a count of the unit 10 ^ -decimals.
-- Digits after these decimals are cut off.
abbrev pub cut_fraction : ℕ → List ℕ → ℕ
cut_fraction decimals ds = digits_value 10 (take decimals ds) * 10 ^ (decimals - length ds)
