-- What is said of the disk that a command takes and hands back.
use Rattle.std.specs.Prelude.{◌≡◌, ◌≢◌, ◌⊎◌, ◌≤◌, ℕ, List, length, map, Bool, false, Option, Some, IfSome}
use Rattle.std.specs.Option.{ForSome}
use Rattle.lrs_disk.specs.declared.disk.Disk as disks
use Rattle.lrs_journal.specs.Journal.{TellsStore}
use Rattle.lrs_record.specs.Entries.{written_entry}
use Rattle.lrs_record.specs.declared.entry.Entry.{Entry}
use Rattle.lrs_hall.specs.LrsHistoryHistory.{IsLegal}
use Rattle.lrs_hall.specs.LrsMachineDesk.{HoldsPrefix, IsDeskRefused, IsSameStore, IsStoreOf, SparesLegal}
use Rattle.lrs_hall.specs.LrsMachineOpeningDeskRefused.{DeskRefused}
use Rattle.lrs_hall.specs.LrsMachineOpeningDeskRefusedTheVariants as refused
use Rattle.lrs_hall.specs.Serving.{Tide, tide_at}
use Rattle.lrs_app.specs.Steps.{ending_of}
use Rattle.lrs_console.specs.declared.ending.Ending.{Ending}
use Rattle.lrs_console.specs.declared.ending.Ending.TheVariants as ending

-- A disk as it was taken: what it held, if that is told, and its count of faults and its moment then.
pub record Taken : Type 0 where
  pub held : Option (List ℕ)
  pub tide : Tide

-- a disk as it is taken now
abbrev pub taken_now : {D : Type 0} → disks.Ghosts D → D → Taken
taken_now d disk = record { held = d.told disk; tide = tide_at d.fault_count d.time disk }

-- ---- what a stop leaves

-- a stop at any moment since the disk was taken leaves bytes that have P
abbrev pub AnyStopLeaves : {D : Type 0} → disks.Ghosts D → Taken → D → (List ℕ → Type 0) → Type 0
AnyStopLeaves d taken disk P = (image : List ℕ) → d.image_since disk taken.tide.moment image → P image

-- a stop now leaves bytes that have P
abbrev pub StopNowLeaves : {D : Type 0} → disks.Ghosts D → D → (List ℕ → Type 0) → Type 0
StopNowLeaves d disk P = (image : List ℕ) → d.image disk image → P image

-- ---- what the disk holds

-- the disk tells bytes that stand for the history, or in doubt for it without its last entry
abbrev pub HoldsIn : Bool → Option (List ℕ) → ℕ → List Entry → Type 0
HoldsIn doubt told limit h = TellsStore told limit doubt (map written_entry h)

-- the same without doubt
abbrev pub Holds : Option (List ℕ) → ℕ → List Entry → Type 0
Holds told limit h = HoldsIn false told limit h

-- the disk holds what it held: the same bytes, or the store of the same history (a recovery may write after its end)
abbrev pub HoldsAsBefore : List ℕ → Option (List ℕ) → Type 0
HoldsAsBefore bytes told = (told ≡ Some bytes)
    ⊎ ((limit : ℕ) × (h : List Entry) × IsStoreOf bytes limit h × Holds told limit h)

-- ---- no store was opened

-- frame k isn't whole, is no entry, or may not stand there
abbrev pub IsDamagedAt : List ℕ → ℕ → Type 0
IsDamagedAt bytes k = IsDeskRefused bytes (refused.Damaged k) ⊎ IsDeskRefused bytes (refused.IllegalEntry k)

-- How a command ends on a disk of these bytes if no store is opened.
abbrev pub EndsUnopened : List ℕ → Option (List ℕ) → Ending → Type 0
EndsUnopened bytes told ending.NotAStore = IsDeskRefused bytes refused.NotAStore × (told ≡ Some bytes)
EndsUnopened bytes told ending.OldFormat = IsDeskRefused bytes refused.OldFormat × (told ≡ Some bytes)
EndsUnopened bytes told (ending.Damaged k) = IsDamagedAt bytes k × (told ≡ Some bytes)
EndsUnopened bytes told ending.Memory = told ≡ Some bytes
EndsUnopened bytes told ending.DiskFault = HoldsAsBefore bytes told
EndsUnopened bytes told other = ⊥

-- What a stop leaves of these bytes if no store is opened: themselves, or if the disk failed maybe a store of the
-- same history.
abbrev pub IsSpared : Ending → List ℕ → List ℕ → Type 0
IsSpared ending.DiskFault bytes image = IsSameStore bytes image
IsSpared other bytes image = image ≡ bytes

-- No store was opened, for the reason that the ending tells.
pub record LeavesUnopened {D : Type 0} (d : disks.Ghosts D) (taken : Taken) (disk : D) (n : ℕ)
    (end : Ending) : Type 0 where
  pub why : DeskRefused
  pub ended : end ≡ ending_of why
  pub counts : n ≡ 0
  pub later : taken.tide.moment ≤ d.time disk
  -- the store of a legal history is refused only for a fault, or if memory runs out
  pub spares : IfSome taken.held (λ bytes. SparesLegal bytes why)
  pub holds : IfSome taken.held (λ bytes. EndsUnopened bytes (d.told disk) end)
  pub stops : ForSome taken.held (λ bytes. AnyStopLeaves d taken disk (IsSpared end bytes))

-- ---- a store was opened

-- A store was opened with a history, and has this one in the end, of so many entries.
pub record LeavesFinal {D : Type 0} (d : disks.Ghosts D) (taken : Taken) (disk : D) (limit : ℕ)
    (opened final : List Entry) (n : ℕ) (end : Ending) : Type 0 where
  -- it can have come about
  pub legal : IsLegal limit final
  pub counts : n ≡ length final
  pub later : taken.tide.moment ≤ d.time disk
  -- The disk holds it. Only if the disk failed, it may still hold the one at the opening.
  pub holds : ForSome taken.held
      (λ _. Holds (d.told disk) limit final ⊎ ((end ≡ ending.DiskFault) × Holds (d.told disk) limit opened))
  -- a stop at any moment leaves its first entries, at least those at the opening
  pub stops : ForSome taken.held (λ _. AnyStopLeaves d taken disk (HoldsPrefix limit (length opened) final))
  -- after a good closing a stop leaves all of it
  pub closed : end ≢ ending.DiskFault
      → ForSome taken.held (λ _. StopNowLeaves d disk (λ image. IsStoreOf image limit final))

-- The same of a store that batches were posted to. `kept` is the history that the batches gave which went well.
pub record LeavesLoaded {D : Type 0} (d : disks.Ghosts D) (taken : Taken) (disk : D) (limit : ℕ)
    (opened kept final : List Entry) (n : ℕ) (end : Ending) : Type 0 where
  -- it can have come about
  pub legal : IsLegal limit final
  pub counts : n ≡ length final
  pub later : taken.tide.moment ≤ d.time disk
  -- The disk holds it. Only if the disk failed, it may lack the entry of the batch that it failed.
  pub holds : ForSome taken.held
      (λ _. Holds (d.told disk) limit final ⊎ ((end ≡ ending.DiskFault) × Holds (d.told disk) limit kept))
  -- a stop at any moment leaves its first entries, at least those at the opening
  pub stops : ForSome taken.held (λ _. AnyStopLeaves d taken disk (HoldsPrefix limit (length opened) final))
  -- after a good closing a stop leaves all of it
  pub closed : end ≢ ending.DiskFault
      → ForSome taken.held (λ _. StopNowLeaves d disk (λ image. IsStoreOf image limit final))
