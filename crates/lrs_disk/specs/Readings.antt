-- What a clock has shown.
use Rattle.std.specs.Prelude.{◌≡◌, ◌++◌, ◌∷◌, [], ℕ, List, Option, Some, None}

-- This reading came after those so far. A clock that counts them may cease to tell them, and never begins to.
abbrev pub AddsReading : Option (List ℕ) → Option (List ℕ) → ℕ → Type 0
AddsReading old None reading = Unit {0}
AddsReading None (Some now) reading = ⊥
AddsReading (Some before) (Some now) reading = now ≡ before ++ reading ∷ []
