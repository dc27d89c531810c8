-- No request of a stream is left out.
use Rattle.std.proofs.Common.{arith, ◌≡◌, ◌≢◌, ◌-◌, ◌+◌, ℕ, List, [], ◌∷◌, length, Bool, true, false, Option, Some, None, Result, Ok, Err, refl, sym, ap, ◌∙◌, subst, inl, inr}
use Rattle.std.specs.Prelude.{if◌then◌else◌, ◌||◌, ◌==◌, MatchBool}
use Rattle.lrs_disk.specs.Door.{Returned}
use Rattle.lrs_disk.specs.Faults.{Rises}
use Rattle.lrs_http.specs.declared.reading.TheConstants.{MOST_REQUESTS}
use Rattle.lrs_http.specs.declared.request.Request.{Request}
use Rattle.lrs_http.specs.declared.request.RequestRefused.{RequestRefused}
use Rattle.lrs_http.specs.declared.request.RequestRefused.TheVariants as request
use Rattle.lrs_http.specs.Links.{GivesNext, GivesRefusal}
use Rattle.lrs_http.specs.Stream.{SpellsRequests}
use Rattle.lrs_machine.specs.Acts.{Receipt}
use Rattle.lrs_hall.specs.Conversation.{ActOn, Worker, going, ended_with, ServesRequest, closes_after, phase_after, Converses, EndsOpen}
use Rattle.lrs_hall.specs.Serving.{AreOnLinks, IsWholeTalk, is_fault}
use Rattle.lrs_hall.specs.Steps.{HasFinishCause}
use Rattle.lrs_hall.specs.Talks.{Talk}
use Rattle.lrs_hall.specs.Whole.{AreWhole, IsWhole, finish_at, responses_at}
use Rattle.lrs_hall.specs.declared.talk.Finish.{Finish}
use Rattle.lrs_hall.specs.declared.talk.Finish.TheVariants as finish
use Rattle.lrs_hall.proofs.OneStream.{IsCalm, end_item, went_whole}

-- The rest of a talk answers all that is left of the stream.
record AnswersRest (most : ℕ) (stream : List ℕ) (receipts : List Receipt) (f : Finish) : Type 0 where
  requests : List Request
  ending : Option RequestRefused
  spells : SpellsRequests most stream requests ending
  number : length receipts ≡ length requests + responses_at ending
  finish : f ≡ finish_at ending

-- the same of what comes after a request, which may end the connection
record AnswersBehind (closes : Bool) (most : ℕ) (stream : List ℕ) (receipts : List Receipt) (f : Finish) : Type 0 where
  requests : List Request
  ending : Option RequestRefused
  spells : MatchBool closes ((requests ≡ []) × (ending ≡ None)) (SpellsRequests most stream requests ending)
  number : length receipts ≡ length requests + responses_at ending
  finish : f ≡ finish_at ending

at_end : (most : ℕ) (stream : List ℕ) (f : Finish) → EndsOpen (Some stream) f → IsCalm f → AnswersRest most stream [] f
at_end most stream f ends calm = elim (end_item stream f ends calm) [
  | inl e ↦ record { requests = []; ending = Some request.End; spells = e.0; number = refl; finish = e.1 }
  | inr e ↦ record { requests = []; ending = Some request.Cut; spells = e.0; number = refl; finish = e.1 }
]

module _ {X : Type 0} (acts : ActOn X) where
  nothing_after : (g : Finish) (receipts : List Receipt) (out : List ℕ) (f : Finish) (old new : Worker X) → Converses acts (ended_with g) receipts out f old new → (receipts ≡ []) × (f ≡ g)
  nothing_after g [] out f old new talks = (refl, talks.1)
  nothing_after g (r ∷ rs) out f old new talks = absurd talks.5

  at_refusal : (most : ℕ) (stream : List ℕ) (e : RequestRefused) (after : Option (List ℕ)) (r : Receipt) (rs : List Receipt) (text out : List ℕ) (f : Finish) (old mid new : Worker X)
      → GivesRefusal (Some stream) e → ServesRequest acts true (Err e) r text old mid → Converses acts (phase_after most (Err e) after) rs out f mid new → IsCalm f → AnswersRest most stream (r ∷ rs) f
  at_refusal most stream request.End after r rs text out f old mid new next answers more calm = absurd answers.0
  at_refusal most stream request.Cut after r rs text out f old mid new next answers more calm = absurd answers.0
  at_refusal most stream request.LinkFault after r rs text out f old mid new next answers more calm = absurd answers.0
  at_refusal most stream request.Memory after r rs text out f old mid new next answers more calm = absurd (calm.0 (nothing_after finish.Memory rs out f mid new more).1)
  at_refusal most stream e after r rs text out f old mid new next answers more calm =
      let end = nothing_after finish.Closed rs out f mid new more in
      record { requests = []; ending = Some e; spells = next; number = ap (λ (l : List Receipt). length (r ∷ l)) end.0; finish = end.1 }

  behind_request : (most : ℕ) (rest : List ℕ) (after : Option (List ℕ)) (closes : Bool) (rs : List Receipt) (out : List ℕ) (f : Finish) (mid new : Worker X) → after ≡ Some rest
      → Converses acts (if closes then ended_with finish.Closed else going most after) rs out f mid new → (Converses acts (going most (Some rest)) rs out f mid new → AnswersRest most rest rs f)
      → AnswersBehind closes most rest rs f
  behind_request most rest after true rs out f mid new left more goes_on =
      let end = nothing_after finish.Closed rs out f mid new more in
      record { requests = []; ending = None; spells = (refl, refl); number = ap (λ (l : List Receipt). length l) end.0; finish = end.1 }
  behind_request most rest after false rs out f mid new left more goes_on =
      let all = goes_on (subst (λ (o : Option (List ℕ)). Converses acts (going most o) rs out f mid new) left more) in
      record { requests = all.requests; ending = all.ending; spells = all.spells; number = all.number; finish = all.finish }

  by_heard : (most : ℕ) (stream : List ℕ) (heard : Result Request RequestRefused) (after : Option (List ℕ)) (r : Receipt) (rs : List Receipt) (text out : List ℕ) (f : Finish) (old mid new : Worker X)
      → GivesNext (Some stream) heard after → ServesRequest acts (closes_after most heard) heard r text old mid → Converses acts (phase_after most heard after) rs out f mid new → IsCalm f
      → ((rest : List ℕ) → Converses acts (going (most - 1) (Some rest)) rs out f mid new → AnswersRest (most - 1) rest rs f) → AnswersRest most stream (r ∷ rs) f
  by_heard most stream (Ok q) after r rs text out f old mid new next answers more calm goes_on =
      let behind = behind_request (most - 1) next.0 after (q.closes || most == 1) rs out f mid new next.2 more (goes_on next.0) in
      let number = behind.number in
      record { requests = q ∷ behind.requests; ending = behind.ending; spells = (next.0, next.1, behind.spells); number = omega (arith, number); finish = behind.finish }
  by_heard most stream (Err e) after r rs text out f old mid new next answers more calm goes_on = at_refusal most stream e after r rs text out f old mid new next answers more calm

  all_answered : (most : ℕ) (stream : List ℕ) (receipts : List Receipt) (out : List ℕ) (f : Finish) (old new : Worker X)
      → Converses acts (going most (Some stream)) receipts out f old new → IsCalm f → AnswersRest most stream receipts f
  all_answered most stream [] out f old new talks calm = at_end most stream f talks.1 calm
  all_answered most stream (r ∷ rs) out f old new talks calm =
      let one = talks.5 in
      let whole = went_whole acts one.text talks.0 (phase_after most one.heard one.after) talks.2 rs talks.1 f talks.3 new one.sent talks.6 calm.1 in
      by_heard most stream one.heard one.after r rs one.text talks.1 f old talks.3 new one.next one.answered (subst (λ p. Converses acts p rs talks.1 f talks.3 new) whole.1 talks.6) calm
      (λ rest more. all_answered (most - 1) rest rs talks.1 f talks.3 new more calm)

  pub is_whole : (stream : Option (List ℕ)) (talk : Talk) (out : List ℕ) (old new : Worker X) → IsWholeTalk acts stream talk out old new → talk.finish ≢ finish.LinkFault → IsWhole stream talk
  is_whole None talk out old new talks calm = λ lasting. tt
  is_whole (Some bytes) talk out old new talks calm = λ lasting.
      let all = all_answered MOST_REQUESTS bytes talk.receipts out talk.finish old new talks (lasting, calm) in
      record { requests = all.requests; ending = all.ending; spells = all.spells; number = all.number; finish = all.finish }

  not_fault : (f : Finish) → is_fault f ≡ false → f ≢ finish.LinkFault
  not_fault f is same =
      let both : true ≡ false = sym (ap is_fault same) ∙ is in
      let no : ⊥ = cc both in
      absurd no

  pub are_whole : (talks : List Talk) (links : List Returned) (old new : Worker X) → AreOnLinks acts talks links old new → AreWhole talks links
  are_whole [] [] old new on = tt
  are_whole [] (link ∷ links) old new on = absurd on
  are_whole (talk ∷ talks) [] old new on = absurd on
  are_whole (talk ∷ talks) (link ∷ links) old new on = (
    λ calm. is_whole link.stream talk on.1.out old on.0 on.1.talks (not_fault talk.finish (sym on.1.rose ∙ calm)),
    are_whole talks links on.0 new on.2,
  )

-- a conversation on a link whose count didn't rise doesn't end for its fault
pub no_fault : (before now : ℕ) (f : Finish) → HasFinishCause before now f → (Rises before now → ⊥) → f ≢ finish.LinkFault
no_fault before now finish.LinkFault cause still same = still cause.0
no_fault before now f cause still same =
    let no : ⊥ = cc same in
    no
