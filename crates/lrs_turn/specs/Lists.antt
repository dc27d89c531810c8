-- Beginnings of lists, sums over them, and numbers that don't fall.
use Rattle.std.specs.Prelude.{◌≡◌, ℕ, ◌+◌, ◌≤◌, ◌==◌, List, [], ◌∷◌, ◌++◌}
use prog.Atomic.{either}

-- the whole goes on from what was before
abbrev pub BeginsWith : {A : Type 0} → List A → List A → Type 0
BeginsWith {A} before whole = (rest : List A) × (before ++ rest ≡ whole)

abbrev pub Each : {A : Type 0} → (A → Type 0) → List A → Type 0
Each P [] = Unit {0}
Each P (x ∷ xs) = P x × Each P xs

-- the sum of the values of a function
abbrev pub total : {A : Type 0} → (A → ℕ) → List A → ℕ
total f [] = 0
total f (x ∷ xs) = f x + total f xs

-- how often a number stands in a list
abbrev pub times : ℕ → List ℕ → ℕ
times n [] = 0
times n (x ∷ xs) = either (n == x) 1 0 + times n xs

-- as many numbers, and none is lower than it was
abbrev pub NoneFalls : List ℕ → List ℕ → Type 0
NoneFalls [] [] = Unit {0}
NoneFalls [] (y ∷ ys) = ⊥
NoneFalls (x ∷ xs) [] = ⊥
NoneFalls (x ∷ xs) (y ∷ ys) = (x ≤ y) × NoneFalls xs ys
