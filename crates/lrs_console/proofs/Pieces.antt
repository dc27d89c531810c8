-- Bytes that go out or come in piece by piece.
use Rattle.std.proofs.Common.{◌≡◌, ℕ, zero, suc, ◌-◌, ◌+◌, List, [], ◌∷◌, ◌++◌, length, take, drop, Option, Some, None, option_map, refl, sym, ap, ◌∙◌, append_assoc, length-drop, arith}
use Rattle.std.proofs.lemmas.List.{take_all}
use Rattle.lrs_console.specs.Printing.{TakesUpTo}

take_none : (n : ℕ) → take {A = ℕ} n [] ≡ []
take_none zero = refl
take_none (suc n) = refl

-- the front of a front and what follows
pub take_split : (d n : ℕ) (xs : List ℕ) → take d xs ++ take n (drop d xs) ≡ take (d + n) xs
take_split zero n xs = ap (λ m. take m xs) (let e : n ≡ 0 + n = omega arith in e)
take_split (suc d) n [] = take_none n ∙ sym (take_none (suc d + n))
take_split (suc d) n (x ∷ xs) = ap (λ r. x ∷ r) (take_split d n xs) ∙ ap (λ m. take m (x ∷ xs)) (let e : suc (d + n) ≡ suc d + n = omega arith in e)

-- what was taken of a text, one piece later
pub goes_on : (text piece : List ℕ) (done n : ℕ) (old new : Option (List ℕ)) → piece ≡ drop done text
    → new ≡ option_map (λ taken. taken ++ take n piece) old → TakesUpTo text done (done + n) old new
goes_on text piece done n old new rest taken start so_far =
    taken ∙ ap (λ m. option_map (λ taken. taken ++ take n piece) m) so_far ∙ along start where
      along : (o : Option (List ℕ)) → option_map (λ taken. taken ++ take n piece) (option_map (λ taken. taken ++ take done text) o)
          ≡ option_map (λ taken. taken ++ take (done + n) text) o
      along None = refl
      along (Some t) = ap Some (append_assoc t (take done text) (take n piece) ∙ ap (λ r. t ++ r) (ap (λ p. take done text ++ take n p) rest ∙ take_split done n text))

-- the rest of a text as a slice
pub rest_of : (done : ℕ) (text : List ℕ) → take (length text - done) (drop done text) ≡ drop done text
rest_of done text = take_all _ _ (omega (arith, length-drop done text))
