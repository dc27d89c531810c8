-- What was written to a link.
use Rattle.std.proofs.Common.{◌≡◌, ℕ, List, [], ◌++◌, Option, option_map, Result, Ok, Err, OnOk, OnErr, subst, sym, ◌∙◌, append-nil}
use Rattle.lrs_http.specs.Links.{Sends, SendsPart}
use Rattle.lrs_hall.specs.Steps.{Wrote}

pub wrote_of : {T E : Type 0} (text : List ℕ) (result : Result T E) (before now : Option (List ℕ))
    → OnOk result (Sends text [] before now) → OnErr result (SendsPart text before now) → Wrote text result before now
wrote_of text (Ok value) before now whole part =
    let same : whole.0 ≡ text = sym (append-nil whole.0) ∙ whole.1 in
    subst (λ front. now ≡ option_map (λ taken. taken ++ front) before) same whole.2
wrote_of text (Err fault) before now whole part = (part.1.0, (part.0, part.1.1), part.1.2)
