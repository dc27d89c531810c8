-- What is written piece by piece.
use Rattle.std.proofs.Common.{◌≡◌, ℕ, List, [], ◌∷◌, ◌++◌, append_assoc, ap, sym, ◌∙◌}
use Rattle.std.specs.List.{flat_map}
use Rattle.std.proofs.lemmas.Grind.{flat_map-append}
use Rattle.lrs_json.specs.Written.{escaped, quoted}

-- one piece more
pub behind : (start mid end a b : List ℕ) → mid ≡ start ++ a → end ≡ mid ++ b → end ≡ start ++ (a ++ b)
behind start mid end a b e f = f ∙ ap (λ x. x ++ b) e ∙ append_assoc start a b

-- three pieces
pub three_pieces : (a b c s m1 m2 m3 : List ℕ) → m1 ≡ s ++ a → m2 ≡ m1 ++ b → m3 ≡ m2 ++ c → m3 ≡ s ++ (a ++ (b ++ c))
three_pieces a b c s m1 m2 m3 e1 e2 e3 = behind s m1 m3 a (b ++ c) e1 (behind m1 m2 m3 b c e2 e3)

-- a text of two parts in its quotes
pub quoted_parts : (first second s m1 m2 m3 : List ℕ) → m1 ≡ s ++ (34 ∷ []) → m2 ≡ m1 ++ flat_map escaped first → m3 ≡ m2 ++ (flat_map escaped second ++ 34 ∷ []) → m3 ≡ s ++ quoted (first ++ second)
quoted_parts first second s m1 m2 m3 e1 e2 e3 =
    three_pieces (34 ∷ []) (flat_map escaped first) (flat_map escaped second ++ 34 ∷ []) s m1 m2 m3 e1 e2 e3
    ∙ ap (λ t. s ++ 34 ∷ t) (sym (append_assoc (flat_map escaped first) (flat_map escaped second) (34 ∷ [])) ∙ ap (λ t. t ++ 34 ∷ []) (sym (flat_map-append escaped first second)))
