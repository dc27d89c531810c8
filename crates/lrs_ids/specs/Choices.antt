-- The first of several options, and one that is there under a condition.
use Rattle.std.specs.Prelude.{Bool, List, [], ◌∷◌, Option, Some, None, if◌then◌else◌}
use Rattle.std.specs.Option.{option_or}

-- the first that there is
abbrev pub first_some : {A : Type 0} → List (Option A) → Option A
first_some [] = None
first_some (o ∷ more) = option_or o (first_some more)

-- this one if the condition holds
abbrev pub when : {A : Type 0} → Bool → A → Option A
when holds a = if holds then Some a else None
