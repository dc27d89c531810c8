-- Which calls of an object in memory fail.
use Rattle.std.specs.Prelude.{◌≡◌, ◌+◌, ◌-◌, ◌^◌, ℕ, List, min, Contains}

-- The calls with these numbers, which count from 0, fail.
pub record Schedule : Type 0 where
  pub failing : List ℕ
  -- the next call's
  pub number : ℕ

-- the next call fails
abbrev pub IsDue : Schedule → Type 0
IsDue s = Contains s.failing s.number

-- one call later
pub record IsNext (old new : Schedule) : Type 0 where
  pub failing : new.failing ≡ old.failing
  pub number : new.number ≡ min (old.number + 1) (2 ^ 64 - 1)
