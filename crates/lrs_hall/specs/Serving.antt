-- What `converse` promises, and what a worker does at its door: whole conversations over one line, and how they end.
use Rattle.std.specs.Prelude.{◌≡◌, ◌≢◌, ◌⊎◌, ◌≤◌, ◌<◌, ℕ, List, [], ◌∷◌, ◌++◌, length, Bool, true, false, Option, Some}
use Rattle.std.specs.Prelude.{None, IfSome, option_map, if◌then◌else◌}
use Rattle.std.specs.List.{AllByRecursion}
use Rattle.lrs_disk.specs.Door.{DoorState, Returned}
use Rattle.lrs_disk.specs.Faults.{Rises}
use Rattle.lrs_machine.specs.Line.{BeginsWith, Record}
use Rattle.lrs_machine.specs.Acts.{Receipt}
pub use Rattle.lrs_machine.specs.Desk.{Tide, tide_at}
use Rattle.lrs_turn.specs.Lists.{NoneFalls}
use Rattle.lrs_turn.specs.Passes.{IsIdle, Pass, Turns}
use Rattle.lrs_hall.specs.Acts.{ActsIn, Reach, limit_in, tide_in}
use Rattle.lrs_hall.specs.Conversation.{ActOn, Worker, going, Converses}
use Rattle.lrs_hall.specs.Draws.{Draws}
use Rattle.lrs_hall.specs.Talks.{Talk}
use Rattle.lrs_hall.specs.declared.talk.Finish.{Finish}
use Rattle.lrs_hall.specs.declared.talk.Finish.TheVariants as finish
use Rattle.lrs_hall.specs.declared.serving.ServeEnd.{ServeEnd}
use Rattle.lrs_hall.specs.declared.serving.ServeEnd.TheVariants as serve
use Rattle.lrs_http.specs.declared.reading.TheConstants.{MOST_REQUESTS}

-- ---- one conversation

-- the readings of the clock that the acts were given
abbrev pub clocks : List Receipt → List ℕ
clocks [] = []
clocks (receipt ∷ receipts) = (if receipt.acted then receipt.clock ∷ [] else []) ++ clocks receipts

-- These readings came after those so far. A clock may cease to tell them, and never begins to.
abbrev pub AddsReadings : Option (List ℕ) → Option (List ℕ) → List ℕ → Type 0
AddsReadings before None readings = Unit {0}
AddsReadings None (Some now) readings = ⊥
AddsReadings (Some before) (Some now) readings = now ≡ before ++ readings

-- no lower count of faults, and no earlier moment
abbrev pub IsNotBelow : Tide → Tide → Type 0
IsNotBelow before now = (before.faults ≤ now.faults) × (before.moment ≤ now.moment)

-- What an act tells of its disk's count of faults and of its moment lies between two tides. A count that rose is told
-- by a 503.
pub record IsWithin (before now : Tide) (receipt : Receipt) : Type 0 where
  pub was : before.faults ≤ receipt.was
  pub rise : receipt.was ≤ receipt.is
  pub is : receipt.is ≤ now.faults
  pub told : receipt.status ≢ 503 → receipt.is ≡ receipt.was
  pub began : before.moment ≤ receipt.disk
  pub ended : receipt.disk ≤ now.moment

-- all acts of these receipts lie between two tides
abbrev pub AreWithin : Tide → Tide → List Receipt → Type 0
AreWithin before now receipts =
    AllByRecursion (λ (receipt : Receipt). receipt.acted ≡ true → IsWithin before now receipt) receipts

-- The pass is of the same turns, and at rest. What must not change of it hasn't, and what it knows of the disk's faults
-- and moment hasn't fallen.
pub record KeepsPass (turns : Turns) (old new : Pass Record) : Type 0 where
  pub idle : IsIdle turns new
  pub marks : new.marks ≡ old.marks
  pub opening : new.opening ≡ old.opening
  pub tide : NoneFalls old.tide new.tide

-- a worker over the one line: the point of its next draw, how many records it has seen, which are its own, and how its
-- last act left the disk
abbrev pub worker_at : Draws → ℕ → List ℕ → Tide → Worker Reach
worker_at draws records own tide =
    record { draws = draws; reached = record { records = records; own = own; tide = tide } }

-- a worker with this pass
abbrev pub worker_of : Draws → Pass Record → Worker Reach
worker_of draws pass = worker_at draws (length pass.front) pass.own (tide_in pass.tide)

-- a whole conversation over the stream of a link
abbrev pub IsWholeTalk : {X : Type 0} → ActOn X → Option (List ℕ) → Talk → List ℕ → Worker X → Worker X → Type 0
IsWholeTalk acts stream talk out old new =
    Converses acts (going MOST_REQUESTS stream) talk.receipts out talk.finish old new

-- A talk of a worker: what went out, and its acts over what the worker's pass has seen in the end, which begins with
-- what it had seen before.
pub record IsConversation (old new : Pass Record) (draws behind : Draws) (stream before now : Option (List ℕ))
    (talk : Talk) : Type 0 where
  pub out : List ℕ
  pub sent : now ≡ option_map (λ taken. taken ++ out) before
  pub begins : BeginsWith old.front new.front
  pub talks : IsWholeTalk (ActsIn (limit_in old.marks) new.front) stream talk out (worker_of draws old)
      (worker_of behind new)

-- ---- the conversations of a door

-- the link failed
abbrev pub is_fault : Finish → Bool
is_fault finish.LinkFault = true
is_fault other = false

-- A link that was given back brought the stream, took what went out, and its count rose exactly if the talk ended for
-- that.
pub record IsOnLink {X : Type 0} (acts : ActOn X) (talk : Talk) (link : Returned) (old new : Worker X) : Type 0 where
  pub out : List ℕ
  pub taken : IfSome link.taken (λ taken. taken ≡ out)
  pub talks : IsWholeTalk acts link.stream talk out old new
  pub rose : link.rose ≡ is_fault talk.finish

-- The talks of a worker, each over its link, one after the other.
abbrev pub AreOnLinks : {X : Type 0} → ActOn X → List Talk → List Returned → Worker X → Worker X → Type 0
AreOnLinks acts [] [] old new = new ≡ old
AreOnLinks acts [] (link ∷ links) old new = ⊥
AreOnLinks acts (talk ∷ talks) [] old new = ⊥
AreOnLinks {X} acts (talk ∷ talks) (link ∷ links) old new = (mid : Worker X) × IsOnLink acts talk link old mid
    × AreOnLinks acts talks links mid new

-- The first of the streams that were to come is the link's.
abbrev pub BringsOne : Option (List ℕ) → Option (List (List ℕ)) → Option (List (List ℕ)) → Type 0
BringsOne stream None now = now ≡ None
BringsOne stream (Some []) now = ⊥
BringsOne stream (Some (first ∷ streams)) now = (stream ≡ Some first) × (now ≡ Some streams)

-- the streams of these links were the first that were to come
abbrev pub Brought : Option (List (List ℕ)) → List Returned → Option (List (List ℕ)) → Type 0
Brought before [] now = now ≡ before
Brought before (link ∷ links) now = (mid : Option (List (List ℕ))) × BringsOne link.stream before mid
    × Brought mid links now

-- the receipts of all talks, in their order
abbrev pub all_receipts : List Talk → List Receipt
all_receipts [] = []
all_receipts (talk ∷ talks) = talk.receipts ++ all_receipts talks

-- These links came through a door and were given back, in this order.
pub record ComesThrough (old new : DoorState) (links : List Returned) : Type 0 where
  pub out : new.out ≡ None
  pub returned : new.returned ≡ option_map (λ (so_far : List Returned). so_far ++ links) old.returned
  pub streams : Brought old.streams links new.streams

-- Why serving ended: as many talks as connections, or the door's last answer was that none will come any more; or the
-- door failed before that. Running out of memory is free.
abbrev pub EndsServing : ℕ → ℕ → DoorState → DoorState → ServeEnd → Type 0
EndsServing connections talks old new serve.Done =
    (new.faults ≡ old.faults)
    × ((talks ≡ connections)
    ⊎ ((talks < connections) × (new.closed ≡ true) × IfSome new.streams (λ streams. streams ≡ [])))
EndsServing connections talks old new serve.DoorFault = (talks < connections) × (old.faults ≤ new.faults)
    × Rises old.faults new.faults
EndsServing connections talks old new serve.Memory = (talks ≤ connections) × (new.faults ≡ old.faults)
