-- What a shelf was asked for.
use Rattle.std.specs.Prelude.{◌≡◌, ◌++◌, ◌∷◌, [], ℕ, List, Option, Some, None}

-- This name was asked for after those so far. A shelf that keeps them may cease to tell them, and never begins to.
abbrev pub AddsName : Option (List (List ℕ)) → Option (List (List ℕ)) → List ℕ → Type 0
AddsName old None name = Unit {0}
AddsName None (Some now) name = ⊥
AddsName (Some before) (Some now) name = now ≡ before ++ name ∷ []
