-- Parts that are appended one after the other are the whole text.
use Rattle.std.proofs.Common.{◌≡◌, ℕ, List, [], ◌∷◌, ◌++◌, append_assoc, refl}

-- a value behind its name; `n` is the name behind what goes before it
pub value_behind : (o s t n w : List ℕ) → s ≡ o ++ (n ++ 58 ∷ []) → t ≡ s ++ w → t ≡ o ++ (n ++ 58 ∷ w)
value_behind o s t n w one two = rw (two, one) (simp append_assoc refl)

-- two members, in braces
pub two_members : (o s t u z a b : List ℕ) → s ≡ o ++ 123 ∷ [] → t ≡ s ++ a → u ≡ t ++ b → z ≡ u ++ 125 ∷ [] → z ≡ o ++ (123 ∷ (a ++ (b ++ 125 ∷ [])))
two_members o s t u z a b one two three four = rw (four, three, two, one) (simp append_assoc refl)
