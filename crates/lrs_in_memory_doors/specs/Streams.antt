-- What is left of a stream is its end.
use Rattle.std.specs.Prelude.{◌≡◌, ◌++◌, ℕ, List, Some, take, drop}
use Rattle.std.proofs.Common.{ap, sym, ◌∙◌}
use Rattle.std.proofs.lemmas.List.{take-append-drop}

pub ends_in : (offset : ℕ) (stream rest : List ℕ) → Some (drop offset stream) ≡ Some rest → (before : List ℕ)
    × (Some stream ≡ Some (before ++ rest))
ends_in offset stream rest is =
    let left : drop offset stream ≡ rest = cc in (
      take offset stream,
      ap Some (sym (take-append-drop offset stream)
          ∙ ap (λ (l : List ℕ). take offset stream ++ l) left),
    )
