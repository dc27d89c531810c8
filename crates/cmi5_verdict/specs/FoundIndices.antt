-- Indices that are found, or not.
use Rattle.std.specs.Prelude.{ℕ, ◌==◌, Bool, false, Option, Some, None}

-- it is the one that was found
abbrev pub is_index : ℕ → Option ℕ → Bool
is_index index None = false
is_index index (Some found) = found == index
