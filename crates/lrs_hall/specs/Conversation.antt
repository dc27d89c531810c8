-- What a conversation over one link says: requests come, each is answered before the next is read, and how that ends.
use Rattle.std.specs.Prelude.{◌≡◌, ◌⊎◌, ◌-◌, ◌==◌, ◌||◌, ℕ, List, [], ◌∷◌, ◌++◌, Bool, true, Option, IfSome, Result, Ok}
use Rattle.std.specs.Prelude.{Err, if◌then◌else◌}
use Rattle.lrs_http.specs.declared.request.Request.{Request}
use Rattle.lrs_http.specs.declared.request.RequestRefused.{RequestRefused}
use Rattle.lrs_http.specs.declared.request.RequestRefused.TheVariants as request
use Rattle.lrs_http.specs.Links.{GivesNext}
use Rattle.lrs_http.specs.Stream.{IsItem}
use Rattle.lrs_replies.specs.declared.reply.Reply.{Reply}
use Rattle.lrs_machine.specs.Acts.{Receipt}
use Rattle.lrs_command.specs.Areas.{command_area}
use Rattle.lrs_names.specs.declared.draw.Draw.{Draw}
use Rattle.lrs_record.specs.declared.entry.Caller.{Caller}
use Rattle.lrs_command.specs.declared.command.Command.{Command}
use Rattle.lrs_routes.specs.declared.asked.Asked.{Asked}
use Rattle.lrs_routes.specs.declared.asked.RouteRefused.{RouteRefused}
use Rattle.lrs_routes.specs.declared.asked.Routed.{Routed}
use Rattle.lrs_routes.specs.Asked.{IsAsked, IsRoutedAs}
use Rattle.lrs_machine.specs.Line.{BeginsWith}
use Rattle.lrs_hall.specs.Draws.{Draws, draw_at, next_draws}
use Rattle.lrs_hall.specs.Responses.{IsReplyText, IsFixed, IsFraming, route_response, framing_response}
use Rattle.lrs_hall.specs.declared.talk.Finish.{Finish}
use Rattle.lrs_hall.specs.declared.talk.Finish.TheVariants as finish

-- What is known of a worker between two acts: where its next draw stands, and what acts have made of X.
pub record Worker (X : Type 0) : Type 0 where
  pub draws : Draws
  pub reached : X

-- Where a conversation stands.
pub data Phase : Type 0 where
  -- so many requests may still come, and this is left of the stream, if it is told
  going : ℕ → Option (List ℕ) → Phase
  -- it has ended so
  ended_with : Finish → Phase

-- What an act on X may be: its caller, command and draw, the reply, the receipt, and X before and after it.
abbrev pub ActOn : Type 0 → Type 1
ActOn X = Caller → Command → Draw → Reply → Receipt → X → X → Type 0

-- A request that asks for something is answered by one act with the next draw, any other by what its refusal fixes.
abbrev pub ServesAsked : {X : Type 0} → ActOn X → Bool → Result Asked RouteRefused → Receipt → List ℕ
    → Worker X → Worker X → Type 0
ServesAsked acts closes (Ok asked) receipt text old new =
    (reply : Reply) × acts asked.caller asked.command (draw_at old.draws) reply receipt old.reached new.reached
    × (new.draws ≡ next_draws old.draws) × IsReplyText reply closes text
ServesAsked acts closes (Err refusal) receipt text old new =
    IsFixed (route_response refusal) closes receipt text × (new ≡ old)

-- A request is answered as what it asks.
abbrev pub AnswersTo : {X : Type 0} → ActOn X → Bool → Request → Receipt → List ℕ → Worker X → Worker X → Type 0
AnswersTo acts closes request receipt text old new = (asked : Result Asked RouteRefused) × IsAsked request asked
    × ServesAsked acts closes asked receipt text old new

abbrev pub with_command : Routed → Command → Asked
with_command routed command = record { caller = routed.caller; command = command }

-- A request is answered as each command of its route's area would be, from its caller: neither its parameters nor its
-- body decide.
abbrev pub AnswersUnread : {X : Type 0} → ActOn X → Bool → Request → Receipt → List ℕ → Worker X → Worker X → Type 0
AnswersUnread acts closes request receipt text old new =
    (routed : Routed) × IsRoutedAs request routed
    × ((command : Command) → command_area command ≡ routed.area
    → ServesAsked acts closes (Ok (with_command routed command)) receipt text old new)

-- what comes of a request, or of what is none
abbrev pub ServesRequest : {X : Type 0} → ActOn X → Bool → Result Request RequestRefused → Receipt → List ℕ
    → Worker X → Worker X → Type 0
ServesRequest acts closes (Ok request) receipt text old new = AnswersTo acts closes request receipt text old new
    ⊎ AnswersUnread acts closes request receipt text old new
ServesRequest acts closes (Err refusal) receipt text old new =
    IsFraming (framing_response refusal) receipt text × (new ≡ old)

-- A response ends the connection if no request was read, if the request asks for that, and after the last request that
-- may come.
abbrev pub closes_after : ℕ → Result Request RequestRefused → Bool
closes_after most (Ok request) = request.closes || most == 1
closes_after most (Err refusal) = true

-- how a conversation ends after a response to what is no request, or without one
abbrev pub finish_after : RequestRefused → Finish
finish_after request.End = finish.Ended
finish_after request.Cut = finish.Cut
finish_after request.LinkFault = finish.LinkFault
finish_after request.Memory = finish.Memory
finish_after other = finish.Closed

-- where a conversation stands after a whole response
abbrev pub phase_after : ℕ → Result Request RequestRefused → Option (List ℕ) → Phase
phase_after most (Ok request) after = if closes_after most (Ok request) then ended_with finish.Closed
    else going (most - 1) after
phase_after most (Err request.Memory) after = ended_with finish.Memory
phase_after most (Err refusal) after = ended_with finish.Closed

-- the response went out whole, or the link failed after its first part
abbrev pub SendsResponse : List ℕ → Phase → List ℕ → Phase → Type 0
SendsResponse text due front phase =
    ((front ≡ text) × (phase ≡ due)) ⊎ (BeginsWith front text × (phase ≡ ended_with finish.LinkFault))

-- One response: what was heard before it, its receipt, and what went out of it.
pub record Responds {X : Type 0} (acts : ActOn X) (most : ℕ) (stream : Option (List ℕ)) (receipt : Receipt)
    (front : List ℕ) (old new : Worker X) (phase : Phase) : Type 0 where
  pub heard : Result Request RequestRefused
  pub after : Option (List ℕ)
  pub next : GivesNext stream heard after
  pub text : List ℕ
  pub answered : ServesRequest acts (closes_after most heard) heard receipt text old new
  pub sent : SendsResponse text (phase_after most heard after) front phase

-- there is no response after the end
abbrev pub RespondsIn : {X : Type 0} → ActOn X → Phase → Receipt → List ℕ → Worker X → Worker X → Phase → Type 0
RespondsIn acts (going most stream) receipt front old new phase = Responds acts most stream receipt front old new phase
RespondsIn acts (ended_with f) receipt front old new phase = ⊥

-- How a conversation ends without a further response: the stream ends so, or it can't be gone on with. A fault of the
-- link has its cause elsewhere, running out of memory is free.
abbrev pub EndsOpen : Option (List ℕ) → Finish → Type 0
EndsOpen stream finish.Ended = IfSome stream (λ bytes. IsItem bytes (Err request.End))
EndsOpen stream finish.Cut = IfSome stream (λ bytes. IsItem bytes (Err request.Cut))
EndsOpen stream finish.Closed = ⊥
EndsOpen stream finish.LinkFault = Unit {0}
EndsOpen stream finish.Memory = Unit {0}

abbrev pub EndsIn : Phase → Finish → Type 0
EndsIn (going most stream) f = EndsOpen stream f
EndsIn (ended_with g) f = f ≡ g

-- A conversation from a phase on: its receipts, one for each response, all that went out, and its finish.
abbrev pub Converses : {X : Type 0} → ActOn X → Phase → List Receipt → List ℕ → Finish → Worker X → Worker X → Type 0
Converses acts phase [] out f old new = (out ≡ []) × EndsIn phase f × (new ≡ old)
Converses {X} acts phase (receipt ∷ receipts) out f old new =
    (front : List ℕ) × (rest : List ℕ) × (behind : Phase) × (mid : Worker X) × (out ≡ front ++ rest)
    × RespondsIn acts phase receipt front old mid behind × Converses acts behind receipts rest f mid new
