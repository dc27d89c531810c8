-- How a response is gathered, piece by piece.
use Rattle.std.specs.Prelude.{ℕ, List, ◌++◌}
use Rattle.lrs_http.specs.Links.{LinkView, IsWritten}
use Rattle.lrs_http.specs.declared.response.Output.{Output}

-- after whatever text was written before, this piece is written, too
abbrev pub Puts : {L : Type 0} → List ℕ → (L → LinkView) → Output → L → Output → L → Type 0
Puts piece seen old before new after =
    (text : List ℕ) (start : LinkView)
    → IsWritten text old.gathered.items old.failed start (seen before)
    → IsWritten (text ++ piece) new.gathered.items new.failed start (seen after)
