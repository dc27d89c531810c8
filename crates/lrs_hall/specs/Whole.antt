-- No request is left out: each that a stream spells has its response, and the talk ends where the stream does.
use Rattle.std.specs.Prelude.{◌≡◌, ◌≢◌, ◌+◌, ℕ, List, [], ◌∷◌, length, false, Option, Some, None, IfSome, is_some}
use Rattle.std.specs.Prelude.{if◌then◌else◌}
use Rattle.lrs_disk.specs.Door.{Returned}
use Rattle.lrs_http.specs.declared.reading.TheConstants.{MOST_REQUESTS}
use Rattle.lrs_http.specs.declared.request.Request.{Request}
use Rattle.lrs_http.specs.declared.request.RequestRefused.{RequestRefused}
use Rattle.lrs_http.specs.Stream.{SpellsRequests}
use Rattle.lrs_hall.specs.Conversation.{finish_after}
use Rattle.lrs_hall.specs.Responses.{framing_response}
use Rattle.lrs_hall.specs.Talks.{Talk}
use Rattle.lrs_hall.specs.declared.talk.Finish.{Finish}
use Rattle.lrs_hall.specs.declared.talk.Finish.TheVariants as finish

-- How many responses the end of a stream gets: one if what stands there is no request; none if the stream ends there or
-- within a request, or if its last request ends the connection.
abbrev pub responses_at : Option RequestRefused → ℕ
responses_at None = 0
responses_at (Some refusal) = if is_some (framing_response refusal) then 1 else 0

-- how a talk ends where its stream does
abbrev pub finish_at : Option RequestRefused → Finish
finish_at None = finish.Closed
finish_at (Some refusal) = finish_after refusal

-- The stream spells these requests and this end. There are as many responses as requests, and one more if the end gets
-- one, and the talk ends as the stream does. What each response says is told by the conversation.
pub record AnswersAll (stream : List ℕ) (talk : Talk) : Type 0 where
  pub requests : List Request
  pub ending : Option RequestRefused
  pub spells : SpellsRequests MOST_REQUESTS stream requests ending
  pub number : length talk.receipts ≡ length requests + responses_at ending
  pub finish : talk.finish ≡ finish_at ending

-- unless the talk ended for want of memory, all of the stream is answered, if it is told
abbrev pub IsWhole : Option (List ℕ) → Talk → Type 0
IsWhole stream talk = talk.finish ≢ finish.Memory → IfSome stream (λ bytes. AnswersAll bytes talk)

-- each talk over a link that didn't fail is whole
abbrev pub AreWhole : List Talk → List Returned → Type 0
AreWhole [] [] = Unit {0}
AreWhole [] (link ∷ links) = ⊥
AreWhole (talk ∷ talks) [] = ⊥
AreWhole (talk ∷ talks) (link ∷ links) = (link.rose ≡ false → IsWhole link.stream talk) × AreWhole talks links
