-- The names of fields are apart.
use Rattle.std.proofs.Common.{ℕ, List, [], ◌∷◌, Bool, true, ◌&&◌, not}
use Rattle.lrs_json.specs.Names.{is_among}
use Rattle.lrs_fields.specs.Values.{Value}
use Rattle.lrs_json.proofs.SmallBytes.{are_small}

-- Each name is ASCII, and none of those before it.
abbrev pub are_apart : List (List ℕ) → List (List ℕ × Value) → Bool
are_apart before [] = true
are_apart before (f ∷ fs) = are_small f.0 && (not (is_among f.0 before) && are_apart (f.0 ∷ before) fs)
