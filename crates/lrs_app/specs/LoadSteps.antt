-- What the private steps of `load` say.
use Rattle.std.specs.Prelude.{◌≡◌, ◌⊎◌, ◌∷◌, ◌++◌, [], ℕ, List, map, None, Option, true, false}
use Rattle.lrs_disk.specs.Readings.{AddsReading}
use Rattle.lrs_disk.specs.declared.disk.Disk as disks
use Rattle.lrs_generator.specs.Generated.{batch, batch_count}
use Rattle.lrs_hall.specs.Draws.{Draws, draw_at, next_draws}
use Rattle.lrs_hall.specs.Serving.{AddsReadings}
use Rattle.lrs_hall.specs.LrsHistoryHistory.{Answer, with_entry}
use Rattle.lrs_json.specs.View.{view}
use Rattle.lrs_json.specs.declared.tree.Tree.{Tree}
use Rattle.lrs_hall.specs.LrsMachineDesk.{Desk, history}
use Rattle.lrs_hall.specs.LrsMachineLine.{BeginsWith, in_doubt}
use Rattle.lrs_record.specs.declared.entry.Entry.{Entry}
use Rattle.lrs_replies.specs.declared.answered.Answered.{Answered}
use Rattle.lrs_replies.specs.declared.answered.Answered.TheVariants as said
use Rattle.lrs_replies.specs.declared.answered.Refusal.{Refusal}
use Rattle.lrs_replies.specs.declared.answered.Refusal.TheVariants as refusal
use Rattle.lrs_app.specs.ClosingSteps.{StopsFrom}
use Rattle.lrs_app.specs.Disks.{LeavesLoaded, taken_now}
use Rattle.lrs_app.specs.Load.{GoesOnLoading, LoadsFrom, StopsLoading, post_answer}
use Rattle.lrs_app.specs.Steps.{DoubtsOnly, Continues, HasPutCause}
use Rattle.lrs_console.specs.declared.ending.Ending.{Ending}
use Rattle.lrs_console.specs.declared.ending.Ending.TheVariants as ending

-- ---- what the store says to a batch

-- a batch may be refused for this
abbrev pub IsMet : Refusal → Type 0
IsMet (refusal.Conflict held) = Unit {0}
IsMet (refusal.Full need limit) = Unit {0}
IsMet other = ⊥

abbrev pub IsOfBatch : Answered → Type 0
IsOfBatch (said.Refused r) = IsMet r
IsOfBatch other = Unit {0}

-- the same of an answer: what is refused makes no entry
abbrev pub SaysOfBatch : Answered → Option Entry → Type 0
SaysOfBatch (said.Refused r) entry = IsMet r × (entry ≡ None)
SaysOfBatch other entry = Unit {0}

-- ---- one batch

-- a batch that is answered by a was taken in
pub record TakesBatch {D : Type 0} (d : disks.Ghosts D) (a : Answer) (old new : Desk D) : Type 0 where
  pub said : GoesOnLoading a.said
  pub final : history new ≡ with_entry (history old) a.entry
  pub settled : in_doubt new.line ≡ false
  pub count : d.fault_count new.disk ≡ d.fault_count old.disk

-- it wasn't, and the loading ends so
pub record EndsBatch {D : Type 0} (d : disks.Ghosts D) (a : Answer) (old new : Desk D) (end : Ending) : Type 0 where
  pub ends : StopsLoading (history old) a (history new) end
  pub doubts : DoubtsOnly old new end
  pub cause : HasPutCause (d.fault_count old.disk) (d.fault_count new.disk) end

-- The next batch, j of n statements, was made, posted at a reading of the clock, and taken in.
pub record TakesNext {D : Type 0} (d : disks.Ghosts D) (seed n j : ℕ) (old new : Desk D) (draws draws_now : Draws)
    (before now : Option (List ℕ)) : Type 0 where
  pub clock : ℕ
  pub reads : AddsReading before now clock
  pub trees : List Tree
  pub made : map view trees ≡ batch seed n j
  pub takes : TakesBatch d (post_answer old.limit (history old) clock (draw_at draws) trees) old new
  pub draws_on : draws_now ≡ next_draws draws
  pub goes : Continues d old new

-- It was posted, and the loading ends there.
pub record EndsPosted {D : Type 0} (d : disks.Ghosts D) (seed n j : ℕ) (old new : Desk D) (draws : Draws)
    (before now : Option (List ℕ)) (end : Ending) : Type 0 where
  pub clock : ℕ
  pub reads : AddsReading before now clock
  pub trees : List Tree
  pub made : map view trees ≡ batch seed n j
  pub stops : EndsBatch d (post_answer old.limit (history old) clock (draw_at draws) trees) old new end
  pub goes : Continues d old new

-- there was no memory to make it
pub record EndsUnmade {D : Type 0} (old new : Desk D) (before now : Option (List ℕ)) (end : Ending) : Type 0 where
  pub reads : now ≡ before
  pub same : new ≡ old
  pub ended : end ≡ ending.Memory

abbrev pub EndsNext : {D : Type 0} → disks.Ghosts D → ℕ → ℕ → ℕ → Desk D → Desk D → Draws → Option (List ℕ)
    → Option (List ℕ) → Ending → Type 0
EndsNext d seed n j old new draws before now end =
    EndsUnmade old new before now end ⊎ EndsPosted d seed n j old new draws before now end

-- ---- all batches

-- the desk was left alone, or went on
abbrev pub GoesOrStays : {D : Type 0} → disks.Ghosts D → Desk D → Desk D → Type 0
GoesOrStays d old new = (new ≡ old) ⊎ Continues d old new

-- Before batch j, with so many left: whatever comes of them comes of the whole.
pub record LoadsSoFar {D : Type 0} (d : disks.Ghosts D) (seed n : ℕ) (old new : Desk D) (draws draws_now : Draws)
    (before now : Option (List ℕ)) (j left : ℕ) : Type 0 where
  pub clocks : List ℕ
  pub reads : AddsReadings before now clocks
  pub leads : (rest : List ℕ) (kept final : List Entry) (end : Ending)
      → LoadsFrom old.limit seed n j draws_now left rest (history new) kept final end
      → LoadsFrom old.limit seed n 0 draws (batch_count n) (clocks ++ rest) (history old) kept final end
  pub limit : new.limit ≡ old.limit
  pub settled : in_doubt new.line ≡ false
  pub goes : GoesOrStays d old new
  pub count : d.fault_count new.disk ≡ d.fault_count old.disk

-- the loading ended so
pub record IsLoaded {D : Type 0} (d : disks.Ghosts D) (seed n : ℕ) (old new : Desk D) (draws : Draws)
    (before now : Option (List ℕ)) (end : Ending) : Type 0 where
  pub clocks : List ℕ
  pub reads : AddsReadings before now clocks
  pub kept : List Entry
  pub ends : LoadsFrom old.limit seed n 0 draws (batch_count n) clocks (history old) kept (history new) end
  -- an entry is in doubt only if the disk failed, and then it is the one behind those that were kept
  pub lost : in_doubt new.line ≡ true → (end ≡ ending.DiskFault) × ((e : Entry) × (history new ≡ kept ++ e ∷ []))
  pub goes : GoesOrStays d old new
  pub cause : HasPutCause (d.fault_count old.disk) (d.fault_count new.disk) end

-- the batches were posted over an open store, and it was closed
pub record ClosesLoaded {D : Type 0} (d : disks.Ghosts D) (desk : Desk D) (disk : D) (seed count : ℕ) (draws : Draws)
    (clocks : List ℕ) (n : ℕ) (end : Ending) : Type 0 where
  pub kept : List Entry
  pub final : List Entry
  pub begins : BeginsWith (history desk) final
  pub ends : LoadsFrom desk.limit seed count 0 draws (batch_count count) clocks (history desk) kept final end
  pub leaves : LeavesLoaded d (taken_now d desk.disk) disk desk.limit (history desk) kept final n end
  pub stops : StopsFrom d desk disk final

-- the same, with the readings of the clock
abbrev pub ClosesReading : {D : Type 0} → disks.Ghosts D → Desk D → D → ℕ → ℕ → Draws → Option (List ℕ)
    → Option (List ℕ) → ℕ → Ending → Type 0
ClosesReading d desk disk seed count draws before now n end = (clocks : List ℕ) × AddsReadings before now clocks
    × ClosesLoaded d desk disk seed count draws clocks n end
