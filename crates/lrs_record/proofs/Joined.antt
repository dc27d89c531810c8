-- Parts that are appended one after the other are the whole text.
use Rattle.std.proofs.Common.{◌≡◌, ℕ, List, [], ◌∷◌, ◌++◌, append_assoc, refl}

-- a brace behind each of two names
pub opened : (o s t u z n k : List ℕ) → s ≡ o ++ n → t ≡ s ++ 123 ∷ [] → u ≡ t ++ k → z ≡ u ++ 123 ∷ [] → z ≡ o ++ (n ++ (123 ∷ (k ++ 123 ∷ [])))
opened o s t u z n k one two three four = rw (four, three, two, one) (simp append_assoc refl)

-- three members behind a brace, and what follows them
pub headed : (o s t u v z a b c d : List ℕ) → s ≡ o ++ 123 ∷ [] → t ≡ s ++ a → u ≡ t ++ b → v ≡ u ++ c → z ≡ v ++ d → z ≡ o ++ (123 ∷ (a ++ (b ++ (c ++ d))))
headed o s t u v z a b c d one two three four five = rw (five, four, three, two, one) (simp append_assoc refl)

-- one part behind the other
pub behind : (o s t m k : List ℕ) → s ≡ o ++ m → t ≡ s ++ k → t ≡ o ++ (m ++ k)
behind o s t m k one two = rw (two, one) (simp append_assoc refl)

pub closed : (o s t z h m : List ℕ) → s ≡ o ++ h → t ≡ s ++ m → z ≡ t ++ 125 ∷ 125 ∷ [] → z ≡ o ++ (h ++ (m ++ 125 ∷ 125 ∷ []))
closed o s t z h m one two three = rw (three, two, one) (simp append_assoc refl)

-- four members in braces, of which the last is an object of one member, whose value is an object; `n` and `k` are the
-- names of these two, and `m` is what stands in the inner object, with its brace
pub in_parts : (a b c n k m : List ℕ) → 123 ∷ (a ++ (b ++ (c ++ ((n ++ 58 ∷ (123 ∷ (k ++ 58 ∷ (123 ∷ m) ++ 125 ∷ []))) ++ 125 ∷ []))))
    ≡ (123 ∷ (a ++ (b ++ (c ++ ((n ++ 58 ∷ []) ++ (123 ∷ ((k ++ 58 ∷ []) ++ 123 ∷ []))))))) ++ (m ++ 125 ∷ 125 ∷ [])
in_parts a b c n k m = simp append_assoc refl
