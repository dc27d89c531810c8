-- What a clock in memory shows.
use Rattle.std.specs.Prelude.{◌++◌, ◌∷◌, [], ◌-◌, ◌^◌, ℕ, List, Option, Some, None, length, min, nat_lt, slice_index}
use Rattle.std.specs.Prelude.{if◌then◌else◌}
use Rattle.std.proofs.Common.{zero, suc}

-- the reading with this number: the last one again at the end, and 0 if there are none
abbrev pub reading_at : List ℕ → ℕ → ℕ
reading_at clock k = slice_index clock (min k (length clock - 1))

-- the first n readings
abbrev pub readings : List ℕ → ℕ → List ℕ
readings clock zero = []
readings clock (suc n) = readings clock n ++ reading_at clock n ∷ []

-- told while their number can be counted
abbrev pub told_readings : List ℕ → ℕ → Option (List ℕ)
told_readings clock n = if nat_lt n (2 ^ 64 - 1) then Some (readings clock n) else None
