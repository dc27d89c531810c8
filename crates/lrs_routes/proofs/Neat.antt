-- Rows of patterns in which a parameter is a whole part of the path.
use Rattle.std.specs.Prelude.{◌≡◌, ◌⊎◌, ℕ, List, [], ◌∷◌}
use Rattle.matchit.specs.Rows.{RowsOf, param_token, catch_all_token}

-- the rows have this pattern with this key
abbrev pub Has : {K : Type 0} → RowsOf K → List ℕ → K → Type 0
Has [] pattern key = ⊥
Has ((p, k) ∷ rest) pattern key = ((p ≡ pattern) × (k ≡ key)) ⊎ Has rest pattern key

-- a parameter is followed by nothing or by a slash, and there is no catch-all
abbrev pub Neat : List ℕ → Type 0
Neat [] = Unit {0}
Neat (x ∷ t) =
    (x ≡ param_token → (t ≡ []) ⊎ ((r : List ℕ) × (t ≡ 47 ∷ r))) × (x ≡ catch_all_token → ⊥) × Neat t
