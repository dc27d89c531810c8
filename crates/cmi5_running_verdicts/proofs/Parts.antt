-- The fields of a tally, one after another.
use Rattle.std.proofs.Common.{◌≡◌, ◌∙◌, ℕ, Bool, ap}
use Rattle.cmi5_running_verdicts.specs.declared.tally.Tally.{Tally}

abbrev made : ℕ → ℕ → ℕ → Bool → ℕ → Tally
made w c p s u = record { waived = w; completed = c; passed = p; satisfied = s; unmet = u }

pub same_tally : (w c p : ℕ) (s : Bool) (w2 c2 p2 : ℕ) (s2 : Bool) (u : ℕ) → w ≡ w2 → c ≡ c2 → p ≡ p2 → s ≡ s2 → made w c p s u ≡ made w2 c2 p2 s2 u
same_tally w c p s w2 c2 p2 s2 u e f g h =
    ap (λ n. made n c p s u) e ∙ (ap (λ n. made w2 n p s u) f ∙ (ap (λ n. made w2 c2 n s u) g ∙ ap (λ b. made w2 c2 p2 b u) h))
