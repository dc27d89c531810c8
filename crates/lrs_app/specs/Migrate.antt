-- What `migrate` does with the two disks that it takes: that of the old store, and that of the new one.
use Rattle.std.specs.Prelude.{◌≡◌, ◌⊎◌, ◌<◌, ◌≤◌, ℕ, List, length, map, Option, Some, IfSome}
use Rattle.std.specs.Option.{ForSome}
use Rattle.lrs_disk.specs.Faults.{Rises}
use Rattle.lrs_disk.specs.declared.disk.Disk as disks
use Rattle.lrs_journal.specs.Builder.{IsBuilt}
use Rattle.lrs_journal.specs.Create.{IsOpenTo}
use Rattle.lrs_journal.specs.Journal.{TellsAlike}
use Rattle.lrs_journal.specs.Store.{HasNoHeader}
use Rattle.lrs_record.specs.Entries.{written_entry}
use Rattle.lrs_record.specs.declared.entry.Entry.{Entry}
use Rattle.lrs_hall.specs.LrsHistoryHistory.{IsLegal}
use Rattle.lrs_hall.specs.LrsMachineDesk.{IsStoreOf}
use Rattle.lrs_hall.specs.LrsMachineMigrating.{chosen, IsMigrateRefused, IsMovable, IsMovedOrNone, SparesMovable}
use Rattle.lrs_hall.specs.LrsMachineMigrating.{StandsForEntries}
use Rattle.lrs_hall.specs.LrsMachineMigratingMigrateRefused.{MigrateRefused}
use Rattle.lrs_hall.specs.LrsMachineMigratingMigrateRefusedTheVariants as refused
use Rattle.lrs_app.specs.Disks.{AnyStopLeaves, Holds, StopNowLeaves, Taken}
use Rattle.lrs_console.specs.declared.ending.Ending.{Ending}
use Rattle.lrs_console.specs.declared.ending.Ending.TheVariants as ending

-- how migrate ends if no store is made
abbrev pub ending_of_migration : MigrateRefused → Ending
ending_of_migration refused.NotAStore = ending.NotAStore
ending_of_migration refused.AlreadyStore = ending.AlreadyStore
ending_of_migration refused.Foreign = ending.NotAStore
ending_of_migration (refused.Damaged k) = ending.Damaged k
ending_of_migration (refused.IllegalEntry k) = ending.Damaged k
ending_of_migration (refused.Full need limit) = ending.Full need limit
ending_of_migration refused.Failed = ending.DiskFault
ending_of_migration refused.Memory = ending.Memory

-- a disk fault is told only if the count of one of the two disks rose
abbrev pub HasMoveCause : ℕ → ℕ → ℕ → ℕ → Ending → Type 0
HasMoveCause old_before old_now new_before new_now end = end ≡ ending.DiskFault
    → Rises old_before old_now ⊎ Rises new_before new_now

-- ---- the old store

-- A disk was only read: it tells what it told, and a stop at any moment leaves that.
pub record IsOnlyRead {D : Type 0} (d : disks.Ghosts D) (taken : Taken) (disk : D) : Type 0 where
  pub later : taken.tide.moment ≤ d.time disk
  pub same : d.told disk ≡ taken.held
  pub stops : ForSome taken.held (λ bytes. AnyStopLeaves d taken disk (λ image. image ≡ bytes))

-- ---- the new store was made

-- The new disk holds a store of the entries for which the old one, of either format, stood. Its limit is the one that
-- was given, or else that of the old store.
pub record LeavesMoved {D : Type 0} (d : disks.Ghosts D) (old new : Taken) (disk : D) (limit : Option ℕ) (n : ℕ)
    (end : Ending) : Type 0 where
  pub most : ℕ
  pub entries : List Entry
  pub ended : end ≡ ending.Migrated (length entries)
  pub counts : n ≡ length entries
  pub some : 0 < length entries
  pub given : IfSome limit (λ bytes. most ≡ bytes)
  pub store : IfSome old.held (λ was. (own : ℕ) × StandsForEntries was own entries × (most ≡ chosen limit own))
  -- it can have come about, and each entry has room
  pub legal : IsLegal most entries
  pub movable : IsMovable most entries
  -- a store could be made on the new disk
  pub free : IfSome new.held IsOpenTo
  pub later : new.tide.moment ≤ d.time disk
  pub holds : ForSome new.held (λ _. Holds (d.told disk) most entries)
  -- a stop at any moment leaves no store, or this one
  pub stops : ForSome new.held (λ _. AnyStopLeaves d new disk (IsBuilt most (map written_entry entries)))
  -- a stop now leaves this one
  pub closed : ForSome new.held (λ _. StopNowLeaves d disk (λ image. IsStoreOf image most entries))

-- ---- no store was made

-- What a stop leaves of a new disk on which a store may be made: no open header, or if a disk failed maybe the whole
-- new store.
abbrev pub IsUnmade : List ℕ → Option ℕ → Ending → List ℕ → Type 0
IsUnmade was limit ending.DiskFault image = IsMovedOrNone was limit image
IsUnmade was limit other image = HasNoHeader image

-- The same of any new disk. Where the old one held no store, or no store may be made here, it stays as it was.
abbrev pub IsUnmadeOrSame : List ℕ → List ℕ → Option ℕ → Ending → List ℕ → Type 0
IsUnmadeOrSame was bytes limit end image = (HasNoHeader was ⊎ (IsOpenTo bytes → ⊥) → image ≡ bytes)
    × (IsOpenTo bytes → IsUnmade was limit end image)

-- No store was made on a disk of these bytes from one of those, for the reason that the ending tells.
abbrev pub EndsUnmoved : List ℕ → List ℕ → Option ℕ → Ending → Type 0
EndsUnmoved was bytes limit ending.NotAStore =
    IsMigrateRefused was bytes limit refused.NotAStore ⊎ IsMigrateRefused was bytes limit refused.Foreign
EndsUnmoved was bytes limit ending.AlreadyStore = IsMigrateRefused was bytes limit refused.AlreadyStore
EndsUnmoved was bytes limit (ending.Damaged k) =
    IsMigrateRefused was bytes limit (refused.Damaged k) ⊎ IsMigrateRefused was bytes limit (refused.IllegalEntry k)
EndsUnmoved was bytes limit (ending.Full need most) = IsMigrateRefused was bytes limit (refused.Full need most)
EndsUnmoved was bytes limit ending.DiskFault = Unit {0}
EndsUnmoved was bytes limit ending.Memory = Unit {0}
EndsUnmoved was bytes limit other = ⊥

-- what both disks held, if both tell it, has P
abbrev pub IfBoth : Option (List ℕ) → Option (List ℕ) → (List ℕ → List ℕ → Type 0) → Type 0
IfBoth old new P = IfSome old (λ was. IfSome new (λ bytes. P was bytes))

-- `full` tells a need above the limit that it tells, which is the one that was given if one was
abbrev pub TellsRoom : Option ℕ → Ending → Type 0
TellsRoom limit (ending.Full need most) = (most < need) × IfSome limit (λ given. most ≡ given)
TellsRoom limit other = Unit {0}

-- No store was made.
pub record LeavesUnmoved {D : Type 0} (d : disks.Ghosts D) (old new : Taken) (disk : D) (limit : Option ℕ) (n : ℕ)
    (end : Ending) : Type 0 where
  pub why : MigrateRefused
  pub ended : end ≡ ending_of_migration why
  pub counts : n ≡ 0
  pub later : new.tide.moment ≤ d.time disk
  -- a store that can be moved is refused only for a fault, or if memory runs out
  pub spares : IfBoth old.held new.held (λ was bytes. SparesMovable was bytes limit why)
  pub room : TellsRoom limit end
  pub because : IfBoth old.held new.held (λ was bytes. EndsUnmoved was bytes limit end)
  pub tells : TellsAlike new.held (d.told disk)
  pub holds : IfBoth old.held new.held (λ was bytes. ForSome (d.told disk) (IsUnmadeOrSame was bytes limit end))
  pub stops : IfBoth old.held new.held (λ was bytes. AnyStopLeaves d new disk (IsUnmadeOrSame was bytes limit end))

-- What migrate does over two disks, with this limit if one was given.
abbrev pub MovesStore : {D : Type 0} → disks.Ghosts D → Taken → Taken → D → D → Option ℕ → ℕ → Ending → Type 0
MovesStore d old new old_disk disk limit n end = IsOnlyRead d old old_disk
    × (LeavesMoved d old new disk limit n end ⊎ LeavesUnmoved d old new disk limit n end)
