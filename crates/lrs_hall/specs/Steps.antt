-- What the private parts of a conversation say.
use base.Stored.{Coded}
use Rattle.std.specs.Prelude.{◌≡◌, ◌≢◌, ◌≤◌, ◌-◌, ◌+◌, ℕ, List, [], ◌∷◌, ◌++◌, length, Bool, true, false, Option, Some}
use Rattle.std.specs.Prelude.{None, IsNone, option_map, Result, Ok, Err, if◌then◌else◌, ◌<◌, slice_index_or}
use Rattle.lrs_disk.specs.Door.{DoorState, Returned}
use Rattle.lrs_disk.specs.Faults.{Rises}
use Rattle.lrs_command.specs.declared.command.Command.{Command}
use Rattle.lrs_command.specs.Areas.{command_area}
use Rattle.lrs_http.specs.declared.request.Request.{Request}
use Rattle.lrs_http.specs.declared.request.RequestRefused.{RequestRefused}
use Rattle.lrs_http.specs.Response.{IsStatus}
use Rattle.lrs_machine.specs.Desk.{Desk, lets_in, marks_of, tide_of}
use Rattle.lrs_routes.specs.declared.asked.Routed.{Routed}
use Rattle.lrs_replies.specs.Replies.{Says, error_body}
use Rattle.lrs_replies.specs.declared.answered.Answered.{Answered}
use Rattle.lrs_replies.specs.declared.reply.Reply.{Reply}
use Rattle.lrs_replies.specs.declared.reply.Trouble.{Trouble}
use Rattle.lrs_machine.specs.Line.{BeginsWith, Record, entries}
use Rattle.lrs_turn.specs.Lists.{NoneFalls}
use Rattle.lrs_turn.specs.Passes.{HasTurn, Pass, Turns, committed, pointed}
use Rattle.lrs_hall.specs.Acts.{ActsOn, SeenAndClock, limit_in, seen_of}
use Rattle.lrs_hall.specs.Conversation.{ActOn, Worker, going, ended_with, Responds, EndsOpen, SendsResponse}
use Rattle.lrs_hall.specs.Conversation.{ServesRequest, finish_after}
use Rattle.lrs_machine.specs.Acts.{Receipt, changed}
use Rattle.lrs_hall.specs.Draws.{Draws, draw_at, next_draws, start_of}
use Rattle.lrs_hall.specs.Serving.{AreOnLinks, BringsOne, ComesThrough, EndsServing, KeepsPass}
use Rattle.lrs_hall.specs.Talks.{Talk}
use Rattle.lrs_hall.specs.declared.serving.ServeEnd.{ServeEnd}
use Rattle.lrs_hall.specs.declared.serving.ServeEnd.TheVariants as serve
use Rattle.lrs_hall.specs.Responses.{FixedResponse, IsFraming, framing_response}
use Rattle.lrs_hall.specs.declared.answering.FixedResponse as code
use Rattle.lrs_hall.specs.declared.exchange.Exchanged.{Exchanged}
use Rattle.lrs_hall.specs.declared.exchange.Exchanged.TheVariants.{Next, Last, Silent}
use Rattle.lrs_hall.specs.declared.admitted.Admitted.{Admitted}
use Rattle.lrs_hall.specs.declared.acting.Looked.{Looked}
use Rattle.lrs_hall.specs.declared.acting.Looked.TheVariants.{LetIn, Barred}
use Rattle.lrs_hall.specs.declared.workers.DoorWorker.{DoorWorker}
use Rattle.lrs_hall.specs.declared.talk.Finish.{Finish}
use Rattle.lrs_hall.specs.declared.talk.Finish.TheVariants as finish

-- what acts of a worker change: its pass, and what its door tells of the clock
abbrev pub seen_with : Pass Record → Option (List ℕ) → SeenAndClock
seen_with pass readings = record { seen = seen_of pass; readings = readings }

-- a worker by its draws, its pass, and what its door tells of the clock
abbrev pub worker : Draws → Pass Record → Option (List ℕ) → Worker SeenAndClock
worker draws pass readings = record { draws = draws; reached = seen_with pass readings }

-- ---- acts under the turn

-- The desk was taken with this pass, which has the turn.
pub record IsInTurn {D : Type 0} (code : Coded D) (faults time : D → ℕ) (turns : Turns) (desk : Desk D)
    (pass : Pass Record) : Type 0 where
  pub turn : HasTurn turns pass
  pub line : desk.line ≡ pass.line
  pub marks : marks_of code desk ≡ pass.marks
  pub level : NoneFalls pass.level (tide_of faults time desk)
  pub goes_on : BeginsWith pass.front desk.line
  pub tide : NoneFalls pass.tide (tide_of faults time desk)

-- the pass after an act: what it had seen is the desk's line, and a further record is its own
abbrev pub pass_behind : List Record → Receipt → Pass Record → Pass Record
pass_behind line receipt pass = if changed receipt then committed line pass else pointed pass

-- something was said by the reply, so it can be written
abbrev pub IsSaid : Reply → Type 0
IsSaid reply = (said : Result Answered Trouble) × Says said reply

-- over some line that goes on from these records, the caller of a request is let into its area
abbrev pub IsLetIn : List Record → Routed → Type 0
IsLetIn front routed =
    (line : List Record) × BeginsWith front line × (lets_in (entries line) routed.caller routed.area ≡ true)

-- The caller of a request was looked at. If it is let in, nothing else came of it; else it was answered in the same
-- turn, as each command of the area would be.
abbrev pub Looks : ℕ → Routed → Worker SeenAndClock → Worker SeenAndClock → Looked → Type 0
Looks limit routed old new (LetIn same) = (same ≡ routed) × (new ≡ old) × IsLetIn old.reached.seen.front routed
Looks limit routed old new (Barred reply receipt) =
    ((command : Command) → command_area command ≡ routed.area
    → ActsOn limit routed.caller command (draw_at old.draws) reply receipt old.reached new.reached)
    × (new.draws ≡ next_draws old.draws) × IsSaid reply

-- the caller of a request that was let in, with the area
abbrev pub admitted_of : Routed → Admitted
admitted_of routed = record { caller = routed.caller; area = routed.area }

-- a response with a body may have this status, and allow these methods
abbrev pub IsSayable : ℕ → List ℕ → Type 0
IsSayable status allow = IsStatus status × (status ≢ 204) × (status ≢ 405 → allow ≡ [])

-- the response can be written, and is the one that is fixed
pub record IsResponse (response : code.FixedResponse) (f : FixedResponse) : Type 0 where
  pub status : response.status ≡ f.status
  pub body : response.body.now ≡ error_body f.error []
  pub allow : response.allow.now ≡ f.allow
  pub sayable : IsSayable response.status response.allow.now

abbrev pub AreResponses : Option code.FixedResponse → Option FixedResponse → Type 0
AreResponses None None = Unit {0}
AreResponses None (Some f) = ⊥
AreResponses (Some response) None = ⊥
AreResponses (Some response) (Some f) = IsResponse response f

-- the text was written to a link, or its first part if the link failed
abbrev pub Wrote : {T E : Type 0} → List ℕ → Result T E → Option (List ℕ) → Option (List ℕ) → Type 0
Wrote text (Ok value) before now = now ≡ option_map (λ taken. taken ++ text) before
Wrote text (Err fault) before now =
    (front : List ℕ) × BeginsWith front text × (now ≡ option_map (λ taken. taken ++ front) before)

-- a request was answered, and the response was written, whole or in part
abbrev pub Serves : {T E : Type 0} → ℕ → Bool → Request → Worker SeenAndClock → Worker SeenAndClock → Receipt
    → Result T E → Option (List ℕ) → Option (List ℕ) → Type 0
Serves limit closes request old new receipt sent before now =
    (text : List ℕ) × ServesRequest (ActsOn limit) closes (Ok request) receipt text old new × Wrote text sent before now

-- a conversation ends for a fault of the link only if its count rose
abbrev pub HasFinishCause : ℕ → ℕ → Finish → Type 0
HasFinishCause before now finish.LinkFault = Rises before now × (before ≤ now)
HasFinishCause before now other = now ≡ before

-- One turn of a conversation: a response with more to come, the last response, or the end without one. Beside it: what
-- the link took, and what is left of the stream.
abbrev pub Exchanges : {X : Type 0} → ActOn X → ℕ → Option (List ℕ) → Option (List ℕ) → Option (List ℕ)
    → Option (List ℕ) → Worker X → Worker X → Exchanged → Type 0
Exchanges acts most stream after before now old new (Next receipt) =
    (front : List ℕ) × Responds acts most stream receipt front old new (going (most - 1) after)
    × (now ≡ option_map (λ taken. taken ++ front) before) × (most ≢ 1)
Exchanges acts most stream after before now old new (Last receipt f) =
    (front : List ℕ) × Responds acts most stream receipt front old new (ended_with f)
    × (now ≡ option_map (λ taken. taken ++ front) before)
Exchanges acts most stream after before now old new (Silent f) = EndsOpen stream f × (new ≡ old) × (now ≡ before)

abbrev pub HasExchangeCause : ℕ → ℕ → Exchanged → Type 0
HasExchangeCause before now (Next receipt) = now ≡ before
HasExchangeCause before now (Last receipt f) = HasFinishCause before now f
HasExchangeCause before now (Silent f) = HasFinishCause before now f

-- what a turn was by how its response was sent
abbrev pub exchanged_of : {T E : Type 0} → Receipt → Result T E → Bool → Finish → Exchanged
exchanged_of receipt (Err fault) closes due = Last receipt finish.LinkFault
exchanged_of receipt (Ok value) true due = Last receipt due
exchanged_of receipt (Ok value) false due = Next receipt

-- what is no request was answered, whole or in part, or there is no response to it
abbrev pub RefusesRequest : RequestRefused → Option (List ℕ) → Option (List ℕ) → Exchanged → Type 0
RefusesRequest refusal before now (Next receipt) = ⊥
RefusesRequest refusal before now (Last receipt f) =
    (front : List ℕ) × (text : List ℕ) × IsFraming (framing_response refusal) receipt text
    × SendsResponse text (ended_with (finish_after refusal)) front (ended_with f)
    × (now ≡ option_map (λ taken. taken ++ front) before)
RefusesRequest refusal before now (Silent f) = (f ≡ finish_after refusal) × IsNone (framing_response refusal)
    × (now ≡ before)

-- the count of a link on which what is no request was answered
abbrev pub IsRefusalCause : RequestRefused → ℕ → ℕ → Exchanged → Type 0
IsRefusalCause refusal before now (Next receipt) = ⊥
IsRefusalCause refusal before now (Last receipt f) = HasFinishCause before now f
IsRefusalCause refusal before now (Silent f) = now ≡ before

-- One link came through a door and was given back.
pub record OneComesThrough (old new : DoorState) (link : Returned) : Type 0 where
  pub out : new.out ≡ None
  pub returned : new.returned ≡ option_map (λ (so_far : List Returned). so_far ++ link ∷ []) old.returned
  pub streams : BringsOne link.stream old.streams new.streams
  pub faults : new.faults ≡ old.faults

-- Talks over the links of a door, and why no more.
pub record Served {X : Type 0} (acts : ActOn X) (connections : ℕ) (old new : Worker X) (before behind : DoorState)
    (talks : List Talk) (end : ServeEnd) : Type 0 where
  pub links : List Returned
  pub on_links : AreOnLinks acts talks links old new
  pub through : ComesThrough before behind links
  pub why : EndsServing connections (length talks) before behind end

-- No link came through a door, and why.
pub record EndsTurn (old new : DoorState) (end : ServeEnd) : Type 0 where
  pub out : new.out ≡ None
  pub returned : new.returned ≡ old.returned
  pub streams : new.streams ≡ old.streams
  pub why : EndsServing 1 0 old new end
  pub not_memory : end ≢ serve.Memory

-- What became of a worker that served its door.
pub record Works {O : Type 0} (state : O → DoorState) (turns : Turns) (connections : ℕ)
    (old new : DoorWorker O) : Type 0 where
  pub served : Served (ActsOn (limit_in old.pass.marks)) connections
      (worker old.draws old.pass (state old.door).readings) (worker new.draws new.pass (state new.door).readings)
      (state old.door) (state new.door) new.talks new.end
  pub pass : KeepsPass turns old.pass new.pass

-- ---- workers and their doors

-- what a list gives that stands in the other order
abbrev pub backwards : {A B : Type 0} → (A → B) → List A → List B
backwards f [] = []
backwards f (a ∷ xs) = backwards f xs ++ f a ∷ []

-- what a worker holds
module _ {O : Type 0} where
  abbrev pub pass_held : DoorWorker O → Pass Record
  pass_held w = w.pass

  abbrev pub door_held : DoorWorker O → O
  door_held w = w.door

  abbrev pub talks_held : DoorWorker O → List Talk
  talks_held w = w.talks

  abbrev pub end_held : DoorWorker O → ServeEnd
  end_held w = w.end

  -- The workers stand in the other order. Their draws are those of the streams after this number.
  abbrev pub AreNumbered : List ℕ → ℕ → List (DoorWorker O) → Type 0
  AreNumbered seed n [] = Unit {0}
  AreNumbered seed n (w ∷ ws) = (w.draws ≡ start_of seed (n + length ws + 1)) × AreNumbered seed n ws

  -- Each worker has served its door.
  abbrev pub WorksEach : (O → DoorState) → Turns → ℕ → List (DoorWorker O) → List (DoorWorker O) → Type 0
  WorksEach state turns connections olds news =
      (i : ℕ) (d : DoorWorker O) → i < length olds
      → Works state turns connections (slice_index_or olds i d) (slice_index_or news i d)

-- Workers stand at doors: one for each door with a pass of its own, the last door's first.
pub record AreAtDoors {O : Type 0} (passes : List (Pass Record)) (doors : List O) (seed : List ℕ)
    (workers : List (DoorWorker O)) : Type 0 where
  pub with_passes : backwards pass_held workers ≡ passes
  pub at_doors : backwards door_held workers ≡ doors
  pub numbered : AreNumbered seed 0 workers
