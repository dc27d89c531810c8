-- A name among names.
use Rattle.std.specs.Prelude.{ℕ, List, [], ◌∷◌, Bool, true, false, not, ◌&&◌, ◌||◌}
use Rattle.std.specs.Str.{bytes_eq}

abbrev pub is_among : List ℕ → List (List ℕ) → Bool
is_among k [] = false
is_among k (n ∷ ns) = bytes_eq k n || is_among k ns

-- each is none of those before it, nor one of the names
abbrev pub are_new : List (List ℕ) → List (List ℕ) → Bool
are_new names [] = true
are_new names (k ∷ ks) = not (is_among k names) && are_new (k ∷ names) ks
