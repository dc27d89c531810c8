-- How a reader goes through bytes: one step after the other, each at the beginning of what the ones before it left.
use Rattle.std.specs.Prelude.{ℕ, List, Option, option_and_then}

infixl 10 ◌>>=◌
abbrev pub ◌>>=◌ : {A B : Type 0} → Option A → (A → Option B) → Option B
o >>= f = option_and_then f o

-- Each of these is a value at the beginning of the bytes, and the bytes after it.
abbrev pub Front : Type 0 → Type 0
Front A = List ℕ → Option (A × List ℕ)
