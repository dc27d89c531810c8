-- What was read ahead.
use Rattle.std.specs.Prelude.{◌≡◌, ℕ, List, length, take, drop, Option, Some}

-- These bytes stand from this offset on in what is told.
pub record IsPiece (told : Option (List ℕ)) (start : ℕ) (piece : List ℕ) : Type 0 where
  pub front : (b : List ℕ) → told ≡ Some b → piece ≡ take (length piece) (drop start b)
