-- What the private steps of serve say.
use Rattle.std.specs.Prelude.{◌≡◌, ◌⊎◌, [], ℕ, List}
use Rattle.lrs_disk.specs.Door.{DoorState}
use Rattle.lrs_disk.specs.declared.disk.Disk as disks
use Rattle.lrs_disk.specs.declared.lobby.DoorsRefused.{DoorsRefused}
use Rattle.lrs_disk.specs.declared.lobby.DoorsRefused.TheVariants as refusals
use Rattle.lrs_hall.specs.LrsMachineDesk.{Desk, history}
use Rattle.lrs_hall.specs.LrsMachineLine.{BeginsWith, entries}
use Rattle.lrs_hall.specs.Serving.{Tide}
use Rattle.lrs_hall.specs.Talks.{Talk}
use Rattle.lrs_hall.specs.Workers.{ServesAll}
use Rattle.lrs_hall.specs.declared.serving.ServeEnd.{ServeEnd}
use Rattle.lrs_app.specs.ClosingSteps.{StopsFrom}
use Rattle.lrs_app.specs.Disks.{LeavesFinal, taken_now}
use Rattle.lrs_app.specs.Service.{Doors, EndsService, HadDoors, HasNoDoor, HoldsServed, ending_of_serving}
use Rattle.lrs_app.specs.Run.{HasLobbyCause}
use Rattle.lrs_console.specs.declared.ending.Ending.{Ending}
use Rattle.lrs_console.specs.declared.ending.Ending.TheVariants as ending

abbrev pub ending_of_refusal : DoorsRefused → Ending
ending_of_refusal refusals.Failed = ending.LobbyFault
ending_of_refusal refusals.Memory = ending.Memory

-- doors were had, served, and given back
pub record ServesHad {D : Type 0} (tide : D → Tide) (old new : Desk D) (address : List ℕ) (workers connections : ℕ)
    (seed : List ℕ) (before after : Doors) (talks : List (List Talk)) (end : Ending) : Type 0 where
  pub openings : List DoorState
  pub closings : List DoorState
  pub doors : HadDoors address workers openings closings before after
  pub why : ServeEnd
  pub serves : ServesAll tide old new connections seed openings closings talks why
  pub ended : end ≡ ending_of_serving why talks

abbrev pub ServesDesk : {D : Type 0} → (D → Tide) → Desk D → Desk D → List ℕ → ℕ → ℕ → List ℕ → Doors → Doors
    → List (List Talk) → Ending → Type 0
ServesDesk tide old new address workers connections seed before after talks end =
    (HasNoDoor address workers before after end × (talks ≡ []) × (new ≡ old))
    ⊎ ServesHad tide old new address workers connections seed before after talks end

-- no doors were had, and the store was closed
pub record ClosesDoorless {D : Type 0} (d : disks.Ghosts D) (desk : Desk D) (disk : D) (address : List ℕ) (workers : ℕ)
    (before after : Doors) (talks : List (List Talk)) (n : ℕ) (end : Ending) : Type 0 where
  pub none : HasNoDoor address workers before after end
  pub leaves : LeavesFinal d (taken_now d desk.disk) disk desk.limit (history desk) (history desk) n end
  pub stops : StopsFrom d desk disk (history desk)
  pub silent : talks ≡ []

-- doors were had, but nobody served them for want of memory, and the store was closed
pub record ClosesNobody {D : Type 0} (d : disks.Ghosts D) (desk : Desk D) (disk : D) (address : List ℕ) (workers : ℕ)
    (before after : Doors) (talks : List (List Talk)) (n : ℕ) (end : Ending) : Type 0 where
  pub openings : List DoorState
  pub doors : HadDoors address workers openings openings before after
  pub leaves : LeavesFinal d (taken_now d desk.disk) disk desk.limit (history desk) (history desk) n end
  pub stops : StopsFrom d desk disk (history desk)
  pub silent : talks ≡ []
  pub wanting : end ≡ ending.Memory

-- doors were served, and the store was closed
pub record ClosesServed {D : Type 0} (d : disks.Ghosts D) (desk : Desk D) (disk : D) (address : List ℕ)
    (workers connections : ℕ) (seed : List ℕ) (before after : Doors) (talks : List (List Talk)) (n : ℕ)
    (end : Ending) : Type 0 where
  pub openings : List DoorState
  pub closings : List DoorState
  pub doors : HadDoors address workers openings closings before after
  pub why : ServeEnd
  pub ended : EndsService why talks (d.fault_count disk) end
  pub served : HoldsServed d (taken_now d desk.disk) disk desk.limit (history desk) connections seed openings closings
      talks n why end
  pub begins : BeginsWith (history desk) (entries served.line)
  pub stops : StopsFrom d desk disk (entries served.line)

abbrev pub ServesOpened : {D : Type 0} → disks.Ghosts D → Desk D → D → List ℕ → ℕ → ℕ → List ℕ → Doors → Doors
    → List (List Talk) → ℕ → Ending → Type 0
ServesOpened d desk disk address workers connections seed before after talks n end = HasLobbyCause before after end
    × (ClosesDoorless d desk disk address workers before after talks n end
    ⊎ (ClosesNobody d desk disk address workers before after talks n end
    ⊎ ClosesServed d desk disk address workers connections seed before after talks n end))
