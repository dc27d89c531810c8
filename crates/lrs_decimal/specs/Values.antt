-- The values of numbers, by whole numbers of any length.
use Rattle.std.specs.Prelude.{◌≡◌, ℕ, ◌+◌, ◌*◌, ◌^◌, List, Bool, if◌then◌else◌}
use Rattle.std.specs.declared.cmp.Ordering.{Ordering}
use Rattle.std.specs.Ordering.{nat_cmp}
use Rattle.lrs_decimal.specs.Parts.{is_negative, all_digits, digits_value, point_right, point_left}
use Rattle.lrs_decimal.specs.declared.decimal.Decimal.{Decimal}
use Rattle.lrs_decimal.specs.declared.limits.TheConstants.{LARGEST_EXPONENT}

-- a signed whole number, as the difference of two
pub record Signed : Type 0 where
  pub plus : ℕ
  pub minus : ℕ

abbrev pub signed : Bool → ℕ → Signed
signed negative n = if negative then record { plus = 0; minus = n } else record { plus = n; minus = 0 }

abbrev pub signed_cmp : Signed → Signed → Ordering
signed_cmp x y = nat_cmp (x.plus + y.minus) (y.plus + x.minus)

-- the whole number of all digits, times a power of ten
abbrev pub scaled : List ℕ → ℕ → Signed
scaled spelling power = signed (is_negative spelling) (digits_value (all_digits spelling) * 10 ^ power)

-- A spelling's value is that number with the point moved to the right, and then to the left.
-- Two values are compared times the same power of ten, which moves both points out.
abbrev pub order : List ℕ → List ℕ → Ordering
order s t = signed_cmp (scaled s (point_right s + point_left t)) (scaled t (point_right t + point_left s))

-- the decimal's value, in units of ten to the power of -`LARGEST_EXPONENT`
abbrev pub units : Decimal → Signed
units d = signed d.negative (d.coefficient * 10 ^ d.scale)

-- the decimal has the spelling's value: with the point moved out they are the same
abbrev pub HasValue : Decimal → List ℕ → Type 0
HasValue d spelling = signed d.negative (d.coefficient * 10 ^ (d.scale + point_left spelling))
    ≡ scaled spelling (point_right spelling + LARGEST_EXPONENT)
