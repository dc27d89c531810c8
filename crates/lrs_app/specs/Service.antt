-- What serve does: it asks for doors of the address, serves their connections by one worker each, and gives the doors
-- back.
use Rattle.std.specs.Prelude.{◌≡◌, ◌≢◌, ◌⊎◌, ◌++◌, ◌∷◌, [], ◌-◌, ◌^◌, ℕ, min, List, Option, option_map}
use Rattle.std.specs.Prelude.{length, Bool, true}
use Rattle.std.specs.List.{AllByRecursion}
use Rattle.std.specs.Option.{ForSome}
use Rattle.lrs_disk.specs.Door.{DoorState, IsFresh}
use Rattle.lrs_disk.specs.Faults.{Rises}
use Rattle.lrs_disk.specs.Lobby.{DoorsAsked, CountsFaults}
use Rattle.lrs_disk.specs.declared.disk.Disk as disks
use Rattle.lrs_disk.specs.declared.lobby.Lobby as lobbies
use Rattle.lrs_record.specs.declared.entry.Entry.{Entry}
use Rattle.lrs_hall.specs.LrsHistoryHistory.{IsLegal}
use Rattle.lrs_hall.specs.LrsMachineActs.{Receipt}
use Rattle.lrs_hall.specs.LrsMachineDesk.{HoldsPrefix, IsStoreOf}
use Rattle.lrs_hall.specs.LrsMachineLine.{Record, entries, in_doubt, opened_line, sure}
use Rattle.lrs_hall.specs.Acts.{ActsNext}
use Rattle.lrs_hall.specs.Draws.{start_of}
use Rattle.lrs_hall.specs.Laws.{IsKept}
use Rattle.lrs_hall.specs.Serving.{AreOnLinks, AreWithin, IsNotBelow, Tide, all_receipts, tide_at, worker_at}
use Rattle.lrs_hall.specs.Talks.{Talk}
use Rattle.lrs_hall.specs.Workers.{AreStints, ServesDoors, Stint}
use Rattle.lrs_hall.specs.declared.serving.ServeEnd.{ServeEnd}
use Rattle.lrs_hall.specs.declared.serving.ServeEnd.TheVariants as serve
use Rattle.lrs_app.specs.Disks.{AnyStopLeaves, Holds, HoldsIn, StopNowLeaves, Taken}
use Rattle.lrs_console.specs.declared.ending.Ending.{Ending}
use Rattle.lrs_console.specs.declared.ending.Ending.TheVariants as ending

-- ---- the doors

-- What a lobby tells of its doors: what was asked for so far, the doors that were given back last, and its count of
-- faults.
pub record Doors : Type 0 where
  pub asked : Option (List DoorsAsked)
  pub returned : Option (List DoorState)
  pub faults : ℕ

-- what a lobby tells at one moment
abbrev pub doors : {B E L : Type 0} → lobbies.Ghosts B E L → B → Doors
doors b lobby = record { asked = b.asked lobby; returned = b.returned lobby; faults = b.fault_count lobby }

-- so many doors of this address were asked for
abbrev pub AsksDoors : List ℕ → ℕ → Doors → Doors → Type 0
AsksDoors address workers before after =
    after.asked ≡ option_map
    (λ (asked : List DoorsAsked). asked ++ record { address = address; count = workers } ∷ []) before.asked

-- No doors were had, so no connection is served.
abbrev pub HasNoDoor : List ℕ → ℕ → Doors → Doors → Ending → Type 0
HasNoDoor address workers before after ending.LobbyFault = AsksDoors address workers before after
    × (after.returned ≡ before.returned) × Rises before.faults after.faults
HasNoDoor address workers before after ending.Memory = after ≡ before
HasNoDoor address workers before after other = ⊥

-- Fresh doors were asked for, one for each worker, and given back as they are seen at the end.
pub record HadDoors (address : List ℕ) (workers : ℕ) (openings closings : List DoorState)
    (before after : Doors) : Type 0 where
  pub number : length openings ≡ workers
  pub fresh : AllByRecursion IsFresh openings
  pub asked : AsksDoors address workers before after
  pub returned : after.returned ≡ option_map (λ _. closings) before.returned
  pub counts : CountsFaults before.faults after.faults closings

-- ---- how serving ends

-- the receipts of all workers, one worker after the other
abbrev pub receipts_of_all : List (List Talk) → List Receipt
receipts_of_all [] = []
receipts_of_all (talks ∷ others) = all_receipts talks ++ receipts_of_all others

-- the number of responses of all talks; it stands still at the last value of u64
abbrev pub responses_of : List (List Talk) → ℕ
responses_of talks = min (length (receipts_of_all talks)) (2 ^ 64 - 1)

abbrev pub ending_of_serving : ServeEnd → List (List Talk) → Ending
ending_of_serving serve.Done talks = ending.Served (responses_of talks)
ending_of_serving serve.DoorFault talks = ending.LobbyFault
ending_of_serving serve.Memory talks = ending.Memory

-- The disk's tide from its taking to its return: what the acts of all workers told of the disk lies between, and the
-- closing ends no lower. So a fault that an act tells is one of this disk's.
abbrev pub CountsOn : Tide → List (List Talk) → Tide → Type 0
CountsOn begins talks now = (last : Tide) × AreWithin begins last (receipts_of_all talks) × IsNotBelow begins last
    × IsNotBelow last now

-- the count of the disk's faults rose after each act
abbrev pub RoseSince : List Receipt → ℕ → Type 0
RoseSince receipts now = AllByRecursion (λ (receipt : Receipt). receipt.acted ≡ true → Rises receipt.is now) receipts

-- A disk that fails at the closing takes precedence over the doors and over memory.
abbrev pub EndsService : ServeEnd → List (List Talk) → ℕ → Ending → Type 0
EndsService why talks disk_faults end = (end ≡ ending_of_serving why talks)
    ⊎ ((end ≡ ending.DiskFault) × RoseSince (receipts_of_all talks) disk_faults)

-- ---- what the store holds then

-- The disk holds the history. Only if it failed at the closing, and the last act left its entry in doubt, it may
-- lack that entry.
abbrev pub HoldsAfter : Ending → Bool → Option (List ℕ) → ℕ → List Entry → Type 0
HoldsAfter ending.DiskFault doubt told limit h = (doubt ≡ true) × HoldsIn true told limit h
HoldsAfter other doubt told limit h = Holds told limit h

-- Where there was one worker, no other act came between two of its acts: each was on just what stood before it, from
-- the opening to the end of the line.
abbrev pub IsAlone : (limit : ℕ) (line : List Record) (opened : ℕ) (opening closing : Tide) (connections : ℕ)
    (seed : List ℕ) (stints : List Stint) → AreStints limit line opened opening closing connections seed 1 stints
    → Type 0
IsAlone limit line opened opening closing connections seed [] each = Unit {0}
IsAlone limit line opened opening closing connections seed (s ∷ []) each =
    AreOnLinks (ActsNext limit line) s.talks each.0.links (worker_at (start_of seed 1) opened [] opening)
    (worker_at each.0.last (length line) s.reach.own s.reach.tide)
IsAlone limit line opened opening closing connections seed (s ∷ t ∷ stints) each = Unit {0}

-- What serving a store leaves that was opened with a history: one line of records, whose entries are the one history
-- in the end.
pub record HoldsServed {D : Type 0} (d : disks.Ghosts D) (taken : Taken) (disk : D) (limit : ℕ) (opened : List Entry)
    (connections : ℕ) (seed : List ℕ) (openings closings : List DoorState) (talks : List (List Talk)) (n : ℕ)
    (why : ServeEnd) (end : Ending) : Type 0 where
  pub line : List Record
  -- the history can have come about
  pub legal : IsLegal limit (entries line)
  pub counts : n ≡ length (entries line)
  -- how far the disk had come when serving began, at the end of the opening, and when all workers had ended
  pub began : Tide
  pub served : Tide
  pub tides : IsNotBelow taken.tide began × IsNotBelow began served
      × IsNotBelow served (tide_at d.fault_count d.time disk)
  -- Each worker has served its door with the draws of its stream: each response of an act is the abstract store's reply
  -- over the entries before its point. Each further entry is that of just one response of all workers.
  pub serves : ServesDoors limit (opened_line began.moment opened) line began served connections seed openings closings
      talks why
  pub alone : IsAlone limit line (length (opened_line began.moment opened)) began served connections seed serves.stints
      serves.each
  -- what acts tell of the disk's count and moment lies between its taking and its return
  pub within : AreWithin taken.tide (tide_at d.fault_count d.time disk) (receipts_of_all talks)
  -- the disk fails at the closing only if the last entry is in doubt
  pub doubtful : end ≡ ending.DiskFault → in_doubt line ≡ true
  -- no call of the disk fails at the closing unless the ending says so
  pub well : end ≢ ending.DiskFault → d.fault_count disk ≡ served.faults
  -- the disk holds the history
  pub holds : ForSome taken.held (λ _. HoldsAfter end (in_doubt line) (d.told disk) limit (entries line))
  -- a stop at any moment leaves its first entries, at least those at the opening
  pub stops : ForSome taken.held (λ _. AnyStopLeaves d taken disk (HoldsPrefix limit (length opened) (entries line)))
  -- a stop at any moment since a response without trouble leaves what it was answered over, and its own entry
  pub kept : ForSome taken.held (λ _. AllByRecursion (IsKept limit (d.image_since disk) line) (receipts_of_all talks))
  -- a stop now leaves what stands without doubt
  pub stops_now : ForSome taken.held (λ _. StopNowLeaves d disk (HoldsPrefix limit (sure line) (entries line)))
  -- after a good closing a stop leaves all of it
  pub closed : end ≢ ending.DiskFault
      → ForSome taken.held (λ _. StopNowLeaves d disk (λ image. IsStoreOf image limit (entries line)))
