-- Two texts that differ in a byte.
use Rattle.std.proofs.Common.{◌≡◌, ℕ, List, false, true, eqb, get_or, sym, ap, ◌∙◌, true≢false}
use Rattle.std.proofs.lemmas.Bool.Decides.{Decides-eqb}

pub differ_at : (a b : List ℕ) (k : ℕ) → eqb (get_or a k 0) (get_or b k 0) ≡ false → a ≡ b → ⊥
differ_at a b k other same =
    let one : eqb (get_or a k 0) (get_or b k 0) ≡ true = (Decides-eqb (get_or a k 0) (get_or b k 0)).1 (ap (λ (l : List ℕ). get_or l k 0) same) in
    true≢false (sym one ∙ other)
