use Rattle.std.proofs.Common.{◌∙◌, ap, List, ℕ, [], Option, Bor}
use Rattle.std.specs.Prelude.{unwrap_or}
use Rattle.http.specs.StatusCode.{reason_phrase}
use Rattle.lrs_http.specs.Response.{phrase_of}
use Rattle.lrs_http.proofs.SendLemmas.{unwrap_now}
use Rattle.lrs_http.proofs.response.phrase.Goals as goal

pub returns : goal.returns
unfolding phrase_of
returns c =
    c.as_bytes.ensures.value ∙ ap (λ (b : Bor (List ℕ)). b.now) c.unwrap_or.ensures ∙ unwrap_now c.canonical_reason.result _
    ∙ ap (λ (o : Option (List ℕ)). unwrap_or o []) (c.canonical_reason.ensures.value ∙ ap reason_phrase c.in-Ok.ensures.1)
