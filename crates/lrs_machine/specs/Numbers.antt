-- A value spelled in numbers.
use base.Stored.{Coded, Gv, gnil, gnum, gcons}
use Rattle.std.specs.Prelude.{ℕ, List, [], ◌∷◌, ◌++◌}

abbrev pub spelled : Gv → List ℕ
spelled gnil = 0 ∷ []
spelled (gnum n) = 1 ∷ n ∷ []
spelled (gcons a b) = 2 ∷ (spelled a ++ spelled b)

-- the numbers of this value, and of no other
abbrev pub numbers_of : {A : Type 0} → Coded A → A → List ℕ
numbers_of code value = spelled (code.code value)
