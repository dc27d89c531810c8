-- What `serve_all` promises: what workers leave that served the doors of a desk, over one line.
use Rattle.std.specs.Prelude.{◌≡◌, ◌⊎◌, ◌≤◌, ◌<◌, ◌+◌, ℕ, List, [], ◌∷◌, length, map}
use Rattle.lrs_disk.specs.Door.{DoorState, Returned}
use Rattle.lrs_machine.specs.Line.{BeginsWith, Record, entries}
use Rattle.lrs_machine.specs.Desk.{Desk}
use Rattle.lrs_turn.specs.Lists.{times, total}
use Rattle.lrs_hall.specs.Acts.{ActsIn, Reach}
use Rattle.lrs_hall.specs.Draws.{Draws, start_of}
use Rattle.lrs_hall.specs.Laws.{entries_at}
use Rattle.lrs_hall.specs.Serving.{AddsReadings, AreOnLinks, ComesThrough, EndsServing, IsNotBelow, Tide}
use Rattle.lrs_hall.specs.Serving.{all_receipts, clocks, worker_at}
use Rattle.lrs_hall.specs.Talks.{Talk}
use Rattle.lrs_hall.specs.Whole.{AreWhole}
use Rattle.lrs_hall.specs.declared.serving.ServeEnd.{ServeEnd}
use Rattle.lrs_hall.specs.declared.serving.ServeEnd.TheVariants as serve

-- What became of one worker: its door before and after, its talks, why it ended, and how far it came in the one line.
pub record Stint : Type 0 where
  pub before : DoorState
  pub behind : DoorState
  pub talks : List Talk
  pub end : ServeEnd
  pub reach : Reach

-- A worker that began with these draws and had seen so many records, none of them its own: its talks are those of its
-- door's links, one after the other, over the one line. The disk was so when all began, and so when all had ended.
pub record IsStint (limit : ℕ) (line : List Record) (opened : ℕ) (opening closing : Tide) (connections : ℕ)
    (draws : Draws) (stint : Stint) : Type 0 where
  pub links : List Returned
  pub last : Draws
  pub on_links : AreOnLinks (ActsIn limit line) stint.talks links (worker_at draws opened [] opening)
      (worker_at last stint.reach.records stint.reach.own stint.reach.tide)
  -- on a link that didn't fail no request is left out, unless its talk ended for want of memory
  pub whole : AreWhole stint.talks links
  pub known : IsNotBelow stint.reach.tide closing
  pub through : ComesThrough stint.before stint.behind links
  pub readings : AddsReadings stint.before.readings stint.behind.readings (clocks (all_receipts stint.talks))
  pub why : EndsServing connections (length stint.talks) stint.before stint.behind stint.end

-- The workers have numbers, one after the other from this one on. The draws of each are those of the stream of its
-- number.
abbrev pub AreStints : ℕ → List Record → ℕ → Tide → Tide → ℕ → List ℕ → ℕ → List Stint → Type 0
AreStints limit line opened opening closing connections seed number [] = Unit {0}
AreStints limit line opened opening closing connections seed number (stint ∷ stints) =
    IsStint limit line opened opening closing connections (start_of seed number) stint
    × AreStints limit line opened opening closing connections seed (number + 1) stints

-- how both ended: a door that failed goes first, then want of memory
abbrev pub end_with : ServeEnd → ServeEnd → ServeEnd
end_with serve.Done next = next
end_with serve.DoorFault next = serve.DoorFault
end_with serve.Memory serve.DoorFault = serve.DoorFault
end_with serve.Memory serve.Done = serve.Memory
end_with serve.Memory serve.Memory = serve.Memory

-- how all ended
abbrev pub end_of : List ServeEnd → ServeEnd
end_of [] = serve.Done
end_of (end ∷ ends) = end_with end (end_of ends)

-- Workers have served doors, over one line in the end, which goes on from the one at the opening. The disk's tide was
-- the first when they began, and the last when all had ended.
pub record ServesDoors (limit : ℕ) (opened line : List Record) (opening closing : Tide) (connections : ℕ)
    (seed : List ℕ) (befores behinds : List DoorState) (talks : List (List Talk)) (end : ServeEnd) : Type 0 where
  pub begins : BeginsWith opened line
  pub stints : List Stint
  pub each : AreStints limit line (length opened) opening closing connections seed 1 stints
  pub doors_before : map (λ (s : Stint). s.before) stints ≡ befores
  pub doors_behind : map (λ (s : Stint). s.behind) stints ≡ behinds
  pub all_talks : map (λ (s : Stint). s.talks) stints ≡ talks
  pub ended : end ≡ end_of (map (λ (s : Stint). s.end) stints)
  -- each further record is the own of one worker
  pub owned : (n : ℕ) → length opened ≤ n → n < length line → total (λ (s : Stint). times n s.reach.own) stints ≡ 1
  -- each further entry is that of just one response of all workers
  pub once : (index : ℕ) → length (entries opened) ≤ index → index < length (entries line)
      → total (λ (of_one : List Talk). entries_at index (all_receipts of_one)) talks ≡ 1

-- What no act changes of a desk: its limit, and of its opening the moment, the number of entries, and the disk.
pub record HasSameOpening {D : Type 0} (old new : Desk D) : Type 0 where
  pub limit : new.limit ≡ old.limit
  pub opened_at : new.opened_at ≡ old.opened_at
  pub opened : new.opened ≡ old.opened
  pub origin : new.origin ≡ old.origin

-- Memory ran out before the workers began, and nothing changed.
pub record ServesNone {D : Type 0} (old new : Desk D) (befores behinds : List DoorState) (talks : List (List Talk))
    (end : ServeEnd) : Type 0 where
  pub desk : new ≡ old
  pub doors : behinds ≡ befores
  pub silent : talks ≡ []
  pub wanting : end ≡ serve.Memory

abbrev pub ServesAll : {D : Type 0} → (D → Tide) → Desk D → Desk D → ℕ → List ℕ → List DoorState → List DoorState
    → List (List Talk) → ServeEnd → Type 0
ServesAll tide old new connections seed befores behinds talks end =
    ServesDoors old.limit old.line new.line (tide old.disk) (tide new.disk) connections seed befores behinds talks end
    ⊎ ServesNone old new befores behinds talks end
