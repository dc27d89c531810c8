-- How deep the brackets of a text nest, by a scan of its bytes.
use Rattle.std.specs.Prelude.{ℕ, ◌+◌, ◌-◌, ◌==◌, ◌||◌, List, [], ◌∷◌, Bool, false, if◌then◌else◌}
use Rattle.lrs_json_reader.specs.declared.depth.ScanState.{ScanState}
use Rattle.lrs_json_reader.specs.declared.depth.ScanState.TheVariants.{Outside, Inside, Escaped}

abbrev pub opens : ℕ → Bool
opens b = b == 91 || b == 123

abbrev pub closes : ℕ → Bool
closes b = b == 93 || b == 125

-- Outside strings a bracket changes the depth.
abbrev pub depth_after : ScanState → ℕ → ℕ → ℕ
depth_after Outside d b = if opens b then d + 1 else (if closes b then d - 1 else d)
depth_after Inside d b = d
depth_after Escaped d b = d

-- A quote begins and ends a string, and in it a backslash passes over the next byte.
abbrev pub mode_after : ScanState → ℕ → ScanState
mode_after Outside b = if b == 34 then Inside else Outside
mode_after Inside b = if b == 34 then Outside else (if b == 92 then Escaped else Inside)
mode_after Escaped b = Inside

-- the depth reaches the limit
abbrev pub reaches : ℕ → ℕ → ScanState → List ℕ → Bool
reaches limit d m [] = false
reaches limit d m (b ∷ bs) = depth_after m d b == limit || reaches limit (depth_after m d b) (mode_after m b) bs
