-- What the private steps of a command say.
use Rattle.std.specs.Prelude.{◌≡◌, ◌⊎◌, ◌≤◌, ℕ, List, [], ◌∷◌, ◌++◌, Some, true}
use Rattle.lrs_disk.specs.Faults.{Rises}
use Rattle.lrs_disk.specs.declared.disk.Disk as disks
use Rattle.lrs_journal.specs.Journal.{TellsAlike}
use Rattle.lrs_record.specs.declared.entry.Entry.{Entry}
use Rattle.lrs_hall.specs.LrsHistoryHistory.{Answer, IsLegal, with_entry}
use Rattle.lrs_hall.specs.LrsMachineDesk.{Desk, IsOnDisk, StopsWithin, history}
use Rattle.lrs_hall.specs.LrsMachineLine.{BeginsWith, in_doubt, opened_line}
use Rattle.lrs_hall.specs.LrsMachineOpeningFoundRefused.{FoundRefused}
use Rattle.lrs_hall.specs.LrsMachineOpeningFoundRefusedTheVariants as found
use Rattle.lrs_hall.specs.LrsMachineOpeningDeskRefused.{DeskRefused}
use Rattle.lrs_hall.specs.LrsMachineOpeningDeskRefusedTheVariants as desk
use Rattle.lrs_replies.specs.declared.reply.Trouble.{Trouble}
use Rattle.lrs_replies.specs.declared.reply.Trouble.TheVariants as trouble
use Rattle.lrs_command_line.specs.CommandLine.{CommandLine, IsInRange}
use Rattle.lrs_command_line.specs.Shapes.{Denotes}
use Rattle.lrs_command_line.specs.declared.words.ProgramCommand.{ProgramCommand}
use Rattle.lrs_console.specs.Asking.{EndsSaying}
use Rattle.lrs_console.specs.declared.ending.Ending.{Ending}
use Rattle.lrs_console.specs.declared.ending.Ending.TheVariants as ending

-- A desk as it was opened: all of its history stands without doubt.
pub record IsOpened {D : Type 0} (d : disks.Ghosts D) (desk : Desk D) : Type 0 where
  pub line : desk.line ≡ opened_line desk.opened_at (history desk)
  pub moment : desk.opened_at ≡ d.time desk.disk
  pub legal : IsLegal desk.limit (history desk)
  pub durable : IsOnDisk d.told d.image d.time d.image_since desk

-- What acts make of a desk: its line goes on, and a stop at any moment leaves what stood without doubt before them.
pub record Continues {D : Type 0} (d : disks.Ghosts D) (old new : Desk D) : Type 0 where
  pub limit : new.limit ≡ old.limit
  pub begins : BeginsWith old.line new.line
  pub tells : TellsAlike (d.told old.disk) (d.told new.disk)
  pub later : d.time old.disk ≤ d.time new.disk
  pub stops : StopsWithin d.told d.time d.image_since old new

-- An entry is in doubt only if the disk failed, and then it is the one that was added.
abbrev pub DoubtsOnly : {D : Type 0} → Desk D → Desk D → Ending → Type 0
DoubtsOnly old new end = in_doubt new.line ≡ true → (end ≡ ending.DiskFault)
    × ((e : Entry) × (history new ≡ history old ++ e ∷ []))

-- a put of this id over a history, which the abstract store answers by a, ends so and leaves this one
abbrev pub Submits : List Entry → List ℕ → Answer → List Entry → Ending → Type 0
Submits h id a final ending.Memory = final ≡ h
Submits h id a final ending.DiskFault = (final ≡ h) ⊎ ((e : Entry) × (a.entry ≡ Some e) × (final ≡ h ++ e ∷ []))
Submits h id a final end = EndsSaying id a.said end × (final ≡ with_entry h a.entry)

-- a fault of the disk has its cause
abbrev pub HasDiskEndingCause : ℕ → ℕ → Ending → Type 0
HasDiskEndingCause before now ending.DiskFault = (before ≤ now) × Rises before now
HasDiskEndingCause before now other = now ≡ before

-- the same if no input was read
abbrev pub HasPutCause : ℕ → ℕ → Ending → Type 0
HasPutCause before now ending.InputFault = ⊥
HasPutCause before now ending.DiskFault = (before ≤ now) × Rises before now
HasPutCause before now other = now ≡ before

-- each fault has its cause
pub record HasCauses (disk_before disk_now input_before input_now : ℕ) (end : Ending) : Type 0 where
  pub disk : HasDiskEndingCause disk_before disk_now end
  pub input : end ≡ ending.InputFault → Rises input_before input_now

abbrev pub ending_of_trouble : Trouble → Ending
ending_of_trouble trouble.Memory = ending.Memory
ending_of_trouble trouble.Disk = ending.DiskFault

abbrev pub ending_of : DeskRefused → Ending
ending_of desk.NotAStore = ending.NotAStore
ending_of desk.OldFormat = ending.OldFormat
ending_of (desk.Damaged k) = ending.Damaged k
ending_of (desk.IllegalEntry k) = ending.Damaged k
ending_of desk.Failed = ending.DiskFault
ending_of desk.Memory = ending.Memory

abbrev pub ending_of_found : FoundRefused → Ending
ending_of_found found.AlreadyStore = ending.AlreadyStore
ending_of_found found.Foreign = ending.NotAStore
ending_of_found (found.Full need limit) = ending.Full need limit
ending_of_found found.Failed = ending.DiskFault
ending_of_found found.Memory = ending.Memory

-- the words as they were read mean a command whose values are in their ranges
abbrev pub DenotesInRange : ProgramCommand → Type 0
DenotesInRange read = (c : CommandLine) × IsInRange c × Denotes read c
