-- What is behind a value that some bytes begin with, by a scan of the bytes.
use Rattle.std.specs.Prelude.{ℕ, ◌==◌, ◌||◌, not, List, [], ◌∷◌, drop, Bool, true, false, if◌then◌else◌}
use Rattle.std.specs.List.{prefix_len}
use Rattle.lrs_json_reader.specs.Brackets.{depth_after, mode_after, opens}
use Rattle.lrs_json_reader.specs.declared.depth.ScanState.{ScanState}
use Rattle.lrs_json_reader.specs.declared.depth.ScanState.TheVariants.{Outside}

-- Behind the closing quote. A backslash passes over the next byte.
abbrev pub behind_quote : Bool → List ℕ → List ℕ
behind_quote passed [] = []
behind_quote true (b ∷ bs) = behind_quote false bs
behind_quote false (b ∷ bs) = if b == 34 then bs else behind_quote (b == 92) bs

-- Behind the bracket that closes the first of so many open ones.
abbrev pub behind_close : ℕ → ScanState → List ℕ → List ℕ
behind_close d m [] = []
behind_close d m (b ∷ bs) =
    if depth_after m d b == 0 then bs else behind_close (depth_after m d b) (mode_after m b) bs

-- a byte that ends no number and no literal word
abbrev pub is_of_word : ℕ → Bool
is_of_word b = not (b == 44 || b == 93 || b == 125)

-- behind the value or the name that comes first
abbrev pub behind_front : List ℕ → List ℕ
behind_front [] = []
behind_front (b ∷ bs) =
    if opens b then behind_close 1 Outside bs
    else (if b == 34 then behind_quote false bs else drop (prefix_len is_of_word (b ∷ bs)) (b ∷ bs))
