-- The ending that is due. If no count of faults rises in a run, it ends with `memory`, or as is due.
use Rattle.std.specs.Prelude.{◌≡◌, ◌≢◌, ◌⊎◌, ◌<◌, ◌≤◌, ℕ, List, [], ◌∷◌, length, Option, IfSome}
use Rattle.lrs_disk.specs.Door.{DoorState, Returned}
use Rattle.lrs_disk.specs.Faults.{Rises}
use Rattle.lrs_disk.specs.declared.disk.Disk as disks
use Rattle.lrs_names.specs.declared.draw.Draw.{Draw}
use Rattle.lrs_journal.specs.Create.{IsStore, IsForeign, IsOpenTo, need_of_first}
use Rattle.lrs_record.specs.Entries.{written_entry}
use Rattle.lrs_record.specs.declared.entry.Entry.{Entry}
use Rattle.lrs_generator.specs.Generated.{batch_count}
use Rattle.lrs_hall.specs.Draws.{Draws, draw_at, start_of}
use Rattle.lrs_hall.specs.LrsFoldOwn.{founding_entry}
use Rattle.lrs_hall.specs.LrsMachineDesk.{IsDeskRefused, IsStoreOf}
use Rattle.lrs_hall.specs.LrsMachineMigrating.{chosen, IsMovable, StandsForEntries}
use Rattle.lrs_hall.specs.LrsMachineOpeningDeskRefusedTheVariants as refused
use Rattle.lrs_hall.specs.Serving.{ComesThrough, EndsServing}
use Rattle.lrs_hall.specs.Talks.{Talk}
use Rattle.lrs_hall.specs.declared.serving.ServeEnd.TheVariants as serve
use Rattle.lrs_app.specs.Disks.{IsDamagedAt, Taken}
use Rattle.lrs_app.specs.Load.{LoadsFrom}
use Rattle.lrs_app.specs.Migrate.{EndsUnmoved, IfBoth}
use Rattle.lrs_app.specs.Run.{Outside, InitRunsTo, IntakeRunsTo, IsIdle, LoadRunsTo, MigrateRunsTo, PrintsEnding}
use Rattle.lrs_app.specs.Run.{ServeRunsTo, SparesInput}
use Rattle.lrs_app.specs.Service.{Doors, HadDoors, responses_of}
use Rattle.lrs_app.specs.declared.program.Ended as program
use Rattle.lrs_command_line.specs.CommandLine.{CommandLine, init, intake, serve, load, migrate, IsCommandLine, base_of}
use Rattle.lrs_command_line.specs.CommandLine.{chosen_limit_of, connections_of, count_of, limit_of, seed_of, workers_of}
use Rattle.lrs_console.specs.Asking.{InputKind, IsTakenFor, EndsAsking}
use Rattle.lrs_console.specs.Endings.{ending_status}
use Rattle.lrs_console.specs.Reading.{AreOfInput}
use Rattle.lrs_console.specs.declared.ending.Ending.{Ending}
use Rattle.lrs_console.specs.declared.ending.Ending.TheVariants as ending

-- ---- nothing failed

-- the count didn't rise, and doesn't stand at its last value
abbrev pub IsStill : ℕ → ℕ → Type 0
IsStill before now = Rises before now → ⊥

-- No count of faults rose in a run that takes this file: not that of the shelf, of the file's disk since it was taken,
-- of the lobby or of the input.
pub record IsCalm {D : Type 0} (d : disks.Ghosts D) (file : List ℕ) (before after : Outside)
    (back : Option D) : Type 0 where
  pub shelf : IsStill before.shelf_faults after.shelf_faults
  pub disk : IfSome back (λ disk. IsStill (before.begins file) (d.fault_count disk))
  pub lobby : IsStill before.lobby.faults after.lobby.faults
  pub input : IsStill before.input_faults after.input_faults

-- The same of a run that takes the disks of two files, of which the second was so as it was taken.
pub record IsCalmWithTwo {D : Type 0} (d : disks.Ghosts D) (file : List ℕ) (taken : Taken) (before after : Outside)
    (first_back second_back : Option D) : Type 0 where
  pub shelf : IsStill before.shelf_faults after.shelf_faults
  pub first : IfSome first_back (λ disk. IsStill (before.begins file) (d.fault_count disk))
  pub second : IfSome second_back (λ disk. IsStill taken.tide.faults (d.fault_count disk))
  pub lobby : IsStill before.lobby.faults after.lobby.faults
  pub input : IsStill before.input_faults after.input_faults

-- ---- what is due

-- no command was found in the words
abbrev pub IsUsageDue : List (List ℕ) → Ending → Type 0
IsUsageDue words end = (end ≡ ending.Usage) × ((c : CommandLine) → IsCommandLine words c → ⊥)

-- init, on a disk that held this: by the bytes, and where a store may be made by what its first entry needs
abbrev pub IsInitDue : Option (List ℕ) → ℕ → Entry → Ending → Type 0
IsInitDue held limit first ending.AlreadyStore = IfSome held IsStore
IsInitDue held limit first ending.NotAStore = IfSome held IsForeign
IsInitDue held limit first (ending.Full need most) = IfSome held IsOpenTo
    × (need ≡ need_of_first (written_entry first)) × (most ≡ limit) × (limit < need)
IsInitDue held limit first ending.Founded = IfSome held IsOpenTo × (need_of_first (written_entry first) ≤ limit)
IsInitDue held limit first other = ⊥

-- no legal history has these bytes as its store
abbrev pub HasNoLegalHistory : List ℕ → Type 0
HasNoLegalHistory bytes = (limit : ℕ) (h : List Entry) → IsStoreOf bytes limit h → ⊥

-- any other command, on a disk that held the store of no legal history: by what is wrong with the bytes
abbrev pub IsUnopenedDue : Option (List ℕ) → Ending → Type 0
IsUnopenedDue held ending.NotAStore =
    IfSome held (λ bytes. HasNoLegalHistory bytes × IsDeskRefused bytes refused.NotAStore)
IsUnopenedDue held ending.OldFormat =
    IfSome held (λ bytes. HasNoLegalHistory bytes × IsDeskRefused bytes refused.OldFormat)
IsUnopenedDue held (ending.Damaged k) = IfSome held (λ bytes. HasNoLegalHistory bytes × IsDamagedAt bytes k)
IsUnopenedDue held other = ⊥

-- intake, on a disk that held a store: by the abstract store's answer to what is left of the input, at this reading of
-- the clock, with this draw
pub record IsIntakeDue (held left : Option (List ℕ)) (clock : ℕ) (draw : Draw) (end : Ending) : Type 0 where
  pub limit : ℕ
  pub opened : List Entry
  pub store : IfSome held (λ bytes. IsStoreOf bytes limit opened)
  pub input : List ℕ
  pub reads : AreOfInput input left
  pub asked : InputKind
  pub takes : IsTakenFor input asked
  pub ends : EndsAsking limit opened clock draw asked end

-- load, on a disk that held a store: by the first batch that the abstract store refuses, or if it refuses none by what
-- the store lists then
pub record IsLoadDue (held : Option (List ℕ)) (seed count : ℕ) (draws : Draws) (clocks : List ℕ)
    (end : Ending) : Type 0 where
  pub limit : ℕ
  pub opened : List Entry
  pub final : List Entry
  pub store : IfSome held (λ bytes. IsStoreOf bytes limit opened)
  -- all that the batches gave is kept
  pub ends : LoadsFrom limit seed count 0 draws (batch_count count) clocks opened final final end
  -- neither want of memory nor a fault of the disk stopped it
  pub unstopped : (end ≢ ending.Memory) × (end ≢ ending.DiskFault)

-- A worker served its door to the end: each link that came through it has its talk, and there are as many as
-- connections were asked for, or the door's last answer was that no more come.
pub record ServesToEnd (connections : ℕ) (opening closing : DoorState) (talks : List Talk) : Type 0 where
  pub links : List Returned
  pub through : ComesThrough opening closing links
  pub each : length talks ≡ length links
  pub why : EndsServing connections (length talks) opening closing serve.Done

-- the same of all workers, one after the other
abbrev pub AllServeToEnd : ℕ → List DoorState → List DoorState → List (List Talk) → Type 0
AllServeToEnd connections [] [] [] = Unit {0}
AllServeToEnd connections (opening ∷ openings) (closing ∷ closings) (of_one ∷ talks) =
    ServesToEnd connections opening closing of_one × AllServeToEnd connections openings closings talks
AllServeToEnd connections openings closings talks = ⊥

-- serve, on a disk that held a store: with the number of the responses, when all workers have served to the end
pub record IsServeDue (held : Option (List ℕ)) (address : List ℕ) (workers connections : ℕ) (before after : Doors)
    (talks : List (List Talk)) (end : Ending) : Type 0 where
  pub limit : ℕ
  pub opened : List Entry
  pub store : IfSome held (λ bytes. IsStoreOf bytes limit opened)
  pub openings : List DoorState
  pub closings : List DoorState
  pub doors : HadDoors address workers openings closings before after
  pub each : AllServeToEnd connections openings closings talks
  pub served : end ≡ ending.Served (responses_of talks)

-- migrate, of a disk that held the store of entries that can be moved, into one on which a store may be made
pub record IsMoveDue (old new : Option (List ℕ)) (limit : Option ℕ) (k : ℕ) : Type 0 where
  pub entries : List Entry
  pub counts : (k ≡ length entries) × (0 < k)
  pub store : IfSome old (λ was. (own : ℕ) × StandsForEntries was own entries × IsMovable (chosen limit own) entries)
  pub free : IfSome new IsOpenTo

-- no entries for which the first bytes stand can be moved to a disk of the second
abbrev pub HasNothingMovable : List ℕ → List ℕ → Option ℕ → Type 0
HasNothingMovable was bytes limit = (own : ℕ) (h : List Entry) → StandsForEntries was own h → 0 < length h
    → IsMovable (chosen limit own) h → IsOpenTo bytes → ⊥

-- migrate, of any two disks
abbrev pub IsMigrateDue : Option (List ℕ) → Option (List ℕ) → Option ℕ → Ending → Type 0
IsMigrateDue old new limit (ending.Migrated k) = IsMoveDue old new limit k
IsMigrateDue old new limit ending.DiskFault = ⊥
IsMigrateDue old new limit ending.Memory = ⊥
IsMigrateDue old new limit other =
    IfBoth old new (λ was bytes. HasNothingMovable was bytes limit × EndsUnmoved was bytes limit other)

-- ---- how a run ends

-- the status is just the ending's, if the output didn't fail
abbrev pub GivesStatus : Ending → Outside → Outside → ℕ → Type 0
GivesStatus end before after status = IsStill before.output_faults after.output_faults → status ≡ ending_status end

-- A run that takes this file ends so. If nothing failed, the ending is `memory` or the due one.
pub record IsAsDue {D : Type 0} (d : disks.Ghosts D) (file : List ℕ) (before after : Outside) (o : program.Ended D)
    (end : Ending) (Due : Type 0) : Type 0 where
  pub calm : IsCalm d file before after o.disk → (end ≡ ending.Memory) ⊎ Due
  pub status : GivesStatus end before after o.status

abbrev pub IntakeEndsAsDue : {D : Type 0} → disks.Ghosts D → List ℕ → Draw → Outside → Outside → program.Ended D
    → Type 0
IntakeEndsAsDue d file draw before after o = (clock : ℕ) × (end : Ending)
    × IntakeRunsTo d file draw before after o clock end
    × IsAsDue d file before after o end
    (IsUnopenedDue (before.holds file) end ⊎ IsIntakeDue (before.holds file) before.left clock draw end)

abbrev pub InitEndsAsDue : {D : Type 0} → disks.Ghosts D → List ℕ → List ℕ → List ℕ → ℕ → Outside → Outside
    → program.Ended D → Type 0
InitEndsAsDue d file admin base limit before after o = (clock : ℕ) × (end : Ending)
    × InitRunsTo d file admin base limit before after o clock end
    × IsAsDue d file before after o end (IsInitDue (before.holds file) limit (founding_entry admin base clock) end)

abbrev pub LoadEndsAsDue : {D : Type 0} → disks.Ghosts D → List ℕ → ℕ → ℕ → Draws → Outside → Outside
    → program.Ended D → Type 0
LoadEndsAsDue d file seed count draws before after o = (clocks : List ℕ) × (end : Ending)
    × LoadRunsTo d file seed count draws before after o clocks end
    × IsAsDue d file before after o end
    (IsUnopenedDue (before.holds file) end ⊎ IsLoadDue (before.holds file) seed count draws clocks end)

abbrev pub ServeEndsAsDue : {D : Type 0} → disks.Ghosts D → List ℕ → List ℕ → ℕ → ℕ → List ℕ → Outside → Outside
    → program.Ended D → Type 0
ServeEndsAsDue d file address workers connections seed before after o = (end : Ending)
    × ServeRunsTo d file address workers connections seed before after o end
    × IsAsDue d file before after o end
    (IsUnopenedDue (before.holds file) end
    ⊎ IsServeDue (before.holds file) address workers connections before.lobby after.lobby o.report.talks end)

abbrev pub MigrateEndsAsDue : {D : Type 0} → disks.Ghosts D → List ℕ → List ℕ → Option ℕ → Outside → Outside
    → program.Ended D → Type 0
MigrateEndsAsDue d old new limit before after o = (taken : Taken) × (end : Ending)
    × MigrateRunsTo d old new limit before after o taken end
    × (IsCalmWithTwo d old taken before after o.old o.disk
    → (end ≡ ending.Memory) ⊎ IsMigrateDue (before.holds old) taken.held limit end)
    × GivesStatus end before after o.status

-- with the draws of `CommandRuns`
abbrev pub CommandEndsAsDue : {D : Type 0} → disks.Ghosts D → CommandLine → List ℕ → Outside → Outside
    → program.Ended D → Type 0
CommandEndsAsDue d (intake file) seed before after o = IntakeEndsAsDue d file (draw_at (start_of seed 0)) before after o
CommandEndsAsDue d (init w) seed before after o = SparesInput before after
    × InitEndsAsDue d w.file w.admin (base_of w) (limit_of w) before after o
CommandEndsAsDue d (serve w) seed before after o = SparesInput before after
    × ServeEndsAsDue d w.file w.address (workers_of w) (connections_of w) seed before after o
CommandEndsAsDue d (load w) seed before after o = SparesInput before after
    × LoadEndsAsDue d w.file (seed_of w) (count_of w) (start_of seed 0) before after o
CommandEndsAsDue d (migrate w) seed before after o = SparesInput before after
    × MigrateEndsAsDue d w.old w.new (chosen_limit_of w) before after o

-- What `Runs` says of a run of these words, and that its ending is `memory` or due if nothing failed.
abbrev pub EndsAsDue : {D : Type 0} → disks.Ghosts D → List (List ℕ) → List ℕ → Outside → Outside → program.Ended D
    → Type 0
EndsAsDue d words seed before after o =
    ((c : CommandLine) × IsCommandLine words c × CommandEndsAsDue d c seed before after o)
    ⊎ ((end : Ending) × IsIdle before after o × PrintsEnding end before after o.status
    × GivesStatus end before after o.status × ((end ≡ ending.Memory) ⊎ IsUsageDue words end))
