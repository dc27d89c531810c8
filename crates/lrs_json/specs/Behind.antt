-- What is left of some bytes behind others that they begin with.
use Rattle.std.specs.Prelude.{ℕ, ◌==◌, List, [], ◌∷◌, Option, Some, None, if◌then◌else◌}

unfoldable pub left_behind : List ℕ → List ℕ → Option (List ℕ)
left_behind [] bytes = Some bytes
left_behind (x ∷ xs) [] = None
left_behind (x ∷ xs) (b ∷ bytes) = if x == b then left_behind xs bytes else None
