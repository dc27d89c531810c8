-- What it is for a path to fit a route's pattern. Paths are compared as they are sent, undecoded and whole.
use Rattle.std.specs.Prelude.{◌≡◌, ◌⊎◌, ℕ, ◌<◌, List, [], ◌∷◌, ◌++◌, length, false}
use Rattle.matchit.specs.Rows.{param_token, catch_all_token}
use Rattle.matchit.specs.Seek.{has_slash}

-- what a parameter may take: some bytes, none of them a slash
abbrev pub IsPart : List ℕ → Type 0
IsPart part = (0 < length part) × (has_slash part ≡ false)

-- a byte fits itself, a parameter fits a part, and a catch-all, which no route here has, fits all that is left
abbrev pub Fits : List ℕ → List ℕ → Type 0
Fits [] path = path ≡ []
Fits (x ∷ pattern) path =
    ((rest : List ℕ) × (path ≡ x ∷ rest) × Fits pattern rest)
    ⊎ (((x ≡ param_token) × ((part : List ℕ) × (rest : List ℕ) × (path ≡ part ++ rest) × IsPart part
    × Fits pattern rest))
    ⊎ ((x ≡ catch_all_token) × (pattern ≡ []) × (0 < length path)))
