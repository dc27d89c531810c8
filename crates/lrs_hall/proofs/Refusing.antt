-- What is no request is answered.
use Rattle.std.proofs.Common.{◌≡◌, ℕ, List, true, Option, Some, None, Result, Ok, Err, subst, sym, ◌∙◌, ap, refl, inl, inr}
use Rattle.lrs_http.specs.declared.request.RequestRefused.{RequestRefused}
use Rattle.lrs_machine.specs.Acts.{Receipt, plain_receipt}
use Rattle.lrs_hall.specs.declared.answering.FixedResponse as code
use Rattle.lrs_hall.specs.declared.exchange.Exchanged.{Exchanged}
use Rattle.lrs_hall.specs.declared.talk.Finish.{Finish}
use Rattle.lrs_hall.specs.Conversation.{finish_after}
use Rattle.lrs_hall.specs.Responses.{FixedResponse, fixed_text, framing_response}
use Rattle.lrs_hall.specs.Steps.{IsResponse, AreResponses, Wrote, RefusesRequest, exchanged_of}

by_sent : {T E : Type 0} (refusal : RequestRefused) (f : FixedResponse) (receipt : Receipt) (due : Finish) (sent : Result T E) (before now : Option (List ℕ))
    → framing_response refusal ≡ Some f → receipt ≡ plain_receipt f.status → due ≡ finish_after refusal
    → Wrote (fixed_text f true) sent before now → RefusesRequest refusal before now (exchanged_of receipt sent true due)
by_sent refusal f receipt due (Ok value) before now is receipt_is end wrote = rw (is, ← end) (fixed_text f true, fixed_text f true, (receipt_is, refl), inl (refl, refl), wrote)
by_sent refusal f receipt due (Err fault) before now is receipt_is end wrote = rw is (wrote.0, fixed_text f true, (receipt_is, refl), inr (wrote.1, refl), wrote.2)

by_some : {T E : Type 0} (refusal : RequestRefused) (o : Option FixedResponse) (response : code.FixedResponse) (receipt : Receipt) (due : Finish) (sent : Result T E) (before now : Option (List ℕ))
    → framing_response refusal ≡ o → AreResponses (Some response) o → receipt ≡ plain_receipt response.status → due ≡ finish_after refusal
    → ((f : FixedResponse) → IsResponse response f → Wrote (fixed_text f true) sent before now) → RefusesRequest refusal before now (exchanged_of receipt sent true due)
by_some refusal None response receipt due sent before now is so receipt_is end wrote = absurd so
by_some refusal (Some f) response receipt due sent before now is so receipt_is end wrote =
    by_sent refusal f receipt due sent before now is (receipt_is ∙ ap plain_receipt so.status) end (wrote f so)

pub refuses : {T E : Type 0} (refusal : RequestRefused) (found : Option code.FixedResponse) (response : code.FixedResponse) (receipt : Receipt) (due : Finish) (sent : Result T E) (before now : Option (List ℕ)) (exchanged : Exchanged)
    → AreResponses found (framing_response refusal) → found ≡ Some response → receipt ≡ plain_receipt response.status → due ≡ finish_after refusal
    → ((f : FixedResponse) → IsResponse response f → Wrote (fixed_text f true) sent before now) → exchanged ≡ exchanged_of receipt sent true due → RefusesRequest refusal before now exchanged
refuses refusal found response receipt due sent before now exchanged so is receipt_is end wrote e =
    subst (λ x. RefusesRequest refusal before now x) (sym e)
    (by_some refusal (framing_response refusal) response receipt due sent before now refl (subst (λ o. AreResponses o (framing_response refusal)) is so) receipt_is end wrote)
