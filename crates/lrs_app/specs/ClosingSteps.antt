-- What the private steps of a command say of the closing.
use Rattle.std.specs.Prelude.{ℕ, List, Option, length}
use Rattle.std.specs.Option.{ForSome}
use Rattle.lrs_disk.specs.Disk.{LeavesOnly}
use Rattle.lrs_disk.specs.declared.disk.Disk as disks
use Rattle.lrs_names.specs.declared.draw.Draw.{Draw}
use Rattle.lrs_record.specs.declared.entry.Entry.{Entry}
use Rattle.lrs_hall.specs.LrsMachineDesk.{Desk, HoldsPrefix, history}
use Rattle.lrs_hall.specs.LrsMachineLine.{BeginsWith}
use Rattle.lrs_app.specs.Disks.{LeavesFinal, taken_now}
use Rattle.lrs_app.specs.Run.{EndsOpened}
use Rattle.lrs_console.specs.Reading.{ForInput}
use Rattle.lrs_console.specs.declared.ending.Ending.{Ending}

-- A crash at any moment since the store was open leaves the first entries of this history, at least those at the
-- opening.
abbrev pub StopsFrom : {D : Type 0} → disks.Ghosts D → Desk D → D → List Entry → Type 0
StopsFrom d desk disk final = ForSome (d.told desk.disk)
    (λ _. LeavesOnly d.time d.image_since desk.disk disk (HoldsPrefix desk.limit (length (history desk)) final))

-- what the input asked was done over an open store, and the store was closed
pub record ClosesTaken {D : Type 0} (d : disks.Ghosts D) (desk : Desk D) (disk : D) (left : Option (List ℕ)) (clock : ℕ)
    (draw : Draw) (n : ℕ) (end : Ending) : Type 0 where
  pub final : List Entry
  pub begins : BeginsWith (history desk) final
  pub ends : ForInput left (λ input. EndsOpened desk.limit (history desk) final input clock draw end)
  pub leaves : LeavesFinal d (taken_now d desk.disk) disk desk.limit (history desk) final n end
  pub stops : StopsFrom d desk disk final
