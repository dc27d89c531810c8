-- Lists of positions, each less than those behind it.
use Rattle.std.specs.Prelude.{◌<◌, ◌==◌, ◌+◌, ℕ, nat_lt, Bool, List, [], ◌∷◌, filter, if◌then◌else◌}
use Rattle.std.specs.List.{AllByRecursion, list_any}

-- each is less than those behind it
abbrev pub IsAscending : List ℕ → Type 0
IsAscending [] = Unit {0}
IsAscending (k ∷ ks) = AllByRecursion (λ j. k < j) ks × IsAscending ks

abbrev pub is_in : List ℕ → ℕ → Bool
is_in ks k = list_any (λ j. j == k) ks

-- those below a bound
abbrev pub below : ℕ → List ℕ → List ℕ
below n ks = filter (λ k. nat_lt k n) ks

-- the positions of the items that pass, counted from that number on
abbrev pub positions_from : {A : Type 0} → (A → Bool) → ℕ → List A → List ℕ
positions_from p i [] = []
positions_from p i (x ∷ xs) = if p x then i ∷ positions_from p (i + 1) xs else positions_from p (i + 1) xs

-- the positions of the items that pass
abbrev pub positions_with : {A : Type 0} → (A → Bool) → List A → List ℕ
positions_with p xs = positions_from p 0 xs
