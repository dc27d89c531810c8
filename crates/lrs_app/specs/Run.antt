-- What a run does: the outside before and after it, the ending, and what it leaves on the disk.
use Rattle.std.specs.Prelude.{◌≡◌, ◌⊎◌, ◌<◌, ◌≤◌, ℕ, List, [], ◌∷◌, ◌++◌, Option, Some, None, IfSome}
use Rattle.lrs_disk.specs.Door.{DoorState}
use Rattle.lrs_disk.specs.Faults.{Rises}
use Rattle.lrs_disk.specs.Readings.{AddsReading}
use Rattle.lrs_disk.specs.Shelf.{AddsName}
use Rattle.lrs_disk.specs.declared.disk.Disk as disks
use Rattle.lrs_disk.specs.declared.lobby.Lobby as lobbies
use Rattle.lrs_disk.specs.declared.shelf.Shelf as shelves
use Rattle.lrs_disk.specs.declared.streams.Sink as sinks
use Rattle.lrs_disk.specs.declared.streams.Source as sources
use Rattle.lrs_names.specs.declared.draw.Draw.{Draw}
use Rattle.lrs_journal.specs.Create.{IsStore, IsForeign, IsMade, IsOpenTo, need_of_first}
use Rattle.lrs_record.specs.Entries.{written_entry}
use Rattle.lrs_record.specs.declared.entry.Entry.{Entry}
use Rattle.lrs_hall.specs.LrsHistoryHistory.{IsLegal, with_entry}
use Rattle.lrs_hall.specs.LrsFoldOwn.{founding_entry}
use Rattle.lrs_hall.specs.LrsMachineDesk.{IsStoreOf}
use Rattle.lrs_generator.specs.Generated.{batch_count}
use Rattle.lrs_hall.specs.Draws.{Draws, draw_at, start_of}
use Rattle.lrs_hall.specs.Serving.{AddsReadings, tide_at}
use Rattle.lrs_hall.specs.Talks.{Talk}
use Rattle.lrs_hall.specs.declared.serving.ServeEnd.{ServeEnd}
use Rattle.lrs_app.specs.Disks.{AnyStopLeaves, Holds, LeavesFinal, LeavesLoaded, LeavesUnopened, StopNowLeaves}
use Rattle.lrs_app.specs.Disks.{Taken}
use Rattle.lrs_app.specs.Load.{LoadsFrom}
use Rattle.lrs_app.specs.Migrate.{HasMoveCause, IsOnlyRead, MovesStore}
use Rattle.lrs_app.specs.Service.{CountsOn, Doors, EndsService, HadDoors, HasNoDoor, HoldsServed, doors, responses_of}
use Rattle.lrs_app.specs.declared.program.Ended as program
use Rattle.lrs_command_line.specs.CommandLine.{CommandLine, init, intake, serve, load, migrate, IsCommandLine, base_of}
use Rattle.lrs_command_line.specs.CommandLine.{chosen_limit_of, connections_of, count_of, limit_of, seed_of, workers_of}
use Rattle.lrs_console.specs.Endings.{ending_status, ending_line}
use Rattle.lrs_console.specs.Printing.{Prints}
use Rattle.lrs_console.specs.Reading.{AreOfInput}
use Rattle.lrs_console.specs.Asking.{InputKind, IsTakenFor, EndsAsking, entry_of_input}
use Rattle.lrs_console.specs.declared.ending.Ending.{Ending}
use Rattle.lrs_console.specs.declared.ending.Ending.TheVariants as ending

-- ---- the outside

-- What the outside tells of itself at one moment, and its counts of faults.
pub record Outside : Type 0 where
  -- what the disk of each name reads, and the count of faults and the moment with which it is taken
  pub holds : List ℕ → Option (List ℕ)
  pub begins : List ℕ → ℕ
  pub starts : List ℕ → ℕ
  -- the names of the files that were asked for so far, in their order
  pub files : Option (List (List ℕ))
  pub shelf_faults : ℕ
  -- the clock's readings so far
  pub readings : Option (List ℕ)
  pub lobby : Doors
  -- what is left of the input
  pub left : Option (List ℕ)
  pub input_faults : ℕ
  -- what the output has taken
  pub taken : Option (List ℕ)
  pub output_faults : ℕ

-- what the shelf, the lobby, the input and the output tell at one moment
abbrev pub outside : {S D B E L I O : Type 0} → shelves.Ghosts S D → lobbies.Ghosts B E L → sources.Ghosts I
    → sinks.Ghosts O → S → B → I → O → Outside
outside s b i o shelf lobby input out = record {
  holds = s.holds shelf;
  begins = s.begins shelf;
  starts = s.starts shelf;
  files = s.taken shelf;
  shelf_faults = s.fault_count shelf;
  readings = b.readings lobby;
  lobby = doors b lobby;
  left = i.left input;
  input_faults = i.fault_count input;
  taken = o.taken out;
  output_faults = o.fault_count out;
}

-- the disk of a file, as it is taken
abbrev pub taken_from : Outside → List ℕ → Taken
taken_from before file =
    record { held = before.holds file; tide = record { faults = before.begins file; moment = before.starts file } }

-- no connection was served
abbrev pub IsSilent : {D : Type 0} → program.Ended D → Type 0
IsSilent o = (o.report.talks ≡ []) × (o.report.responses ≡ 0)

-- the ending's line is printed and its status given, as far as the output doesn't fail
abbrev pub PrintsEnding : Ending → Outside → Outside → ℕ → Type 0
PrintsEnding end before after status = Prints (ending_status end) (ending_line end) before.taken after.taken
    before.output_faults after.output_faults status

-- the same of the output alone
abbrev pub PrintsLine : {O : Type 0} → sinks.Ghosts O → Ending → O → O → ℕ → Type 0
PrintsLine o end before after status = Prints (ending_status end) (ending_line end) (o.taken before) (o.taken after)
    (o.fault_count before) (o.fault_count after) status

-- the clock was read once
abbrev pub ReadsOnce : ℕ → Outside → Outside → Type 0
ReadsOnce clock before after = AddsReading before.readings after.readings clock

-- this file was asked for once, and no other one
abbrev pub TakesFile : List ℕ → Outside → Outside → Type 0
TakesFile file before after = AddsName before.files after.files file

-- These two files were asked for, one after the other, and no other one.
abbrev pub TakesBoth : List ℕ → List ℕ → Outside → Outside → Type 0
TakesBoth first second before after =
    (between : Option (List (List ℕ))) × AddsName before.files between first × AddsName between after.files second

-- The disk of the second of two files, as it was taken: as the shelf told of it before both. Where both disks read as
-- empty it may be another one, since files that aren't there are made as they are asked for.
abbrev pub IsTakenSecond : Outside → List ℕ → List ℕ → Taken → Type 0
IsTakenSecond before first second taken = (before.holds first ≡ Some [] → before.holds second ≡ Some [] → ⊥)
    → taken ≡ taken_from before second

-- the input was left alone
pub record SparesInput (before after : Outside) : Type 0 where
  pub left : after.left ≡ before.left
  pub faults : after.input_faults ≡ before.input_faults

-- no door was asked for or given back
abbrev pub SparesDoors : Outside → Outside → Type 0
SparesDoors before after = after.lobby ≡ before.lobby

-- the file's disk couldn't be taken
abbrev pub HasNoDisk : Outside → Outside → ℕ → Ending → Type 0
HasNoDisk before after n end = (end ≡ ending.DiskFault) × Rises before.shelf_faults after.shelf_faults × (n ≡ 0)

-- a fault is told only if the count of the object rose
abbrev pub HasEndingCause : ℕ → ℕ → ℕ → ℕ → Ending → Type 0
HasEndingCause disk_before disk_now input_before input_now ending.DiskFault = Rises disk_before disk_now
HasEndingCause disk_before disk_now input_before input_now ending.InputFault = Rises input_before input_now
HasEndingCause disk_before disk_now input_before input_now other = Unit {0}

-- ---- intake

-- How intake ends on a store of this limit, opened with this history, and which one the store has in the end: by the
-- abstract store's answer to what the input asks. If the disk failed, the answer's entry may be missing.
abbrev pub EndsOpened : ℕ → List Entry → List Entry → List ℕ → ℕ → Draw → Ending → Type 0
EndsOpened limit opened final input clock draw ending.Memory = final ≡ opened
EndsOpened limit opened final input clock draw ending.InputFault = final ≡ opened
EndsOpened limit opened final input clock draw ending.DiskFault = (asked : InputKind) × IsTakenFor input asked
    × ((final ≡ opened)
    ⊎ ((e : Entry) × (entry_of_input limit opened clock draw asked ≡ Some e) × (final ≡ opened ++ e ∷ [])))
EndsOpened limit opened final input clock draw other = (asked : InputKind) × IsTakenFor input asked
    × EndsAsking limit opened clock draw asked other
    × (final ≡ with_entry opened (entry_of_input limit opened clock draw asked))

-- A store was opened, and what the input asked was done.
pub record IntakeOpened {D : Type 0} (d : disks.Ghosts D) (taken : Taken) (disk : D) (left : Option (List ℕ))
    (clock : ℕ) (draw : Draw) (n : ℕ) (end : Ending) : Type 0 where
  pub limit : ℕ
  pub opened : List Entry
  pub final : List Entry
  pub store : IfSome taken.held (λ bytes. IsStoreOf bytes limit opened)
  -- some bytes: those that the input tells, if it tells any
  pub input : List ℕ
  pub reads : AreOfInput input left
  pub ends : EndsOpened limit opened final input clock draw end
  pub leaves : LeavesFinal d taken disk limit opened final n end

-- What intake does over a disk, with an input of which this was left, at this reading of the clock, with this draw.
abbrev pub IntakeEnds : {D : Type 0} → disks.Ghosts D → Taken → D → Option (List ℕ) → ℕ → Draw → ℕ → Ending → Type 0
IntakeEnds d taken disk left clock draw n end = LeavesUnopened d taken disk n end
    ⊎ IntakeOpened d taken disk left clock draw n end

-- what intake leaves, with the disk that it took or without one
abbrev pub IntakeLeaves : {D : Type 0} → disks.Ghosts D → List ℕ → ℕ → Draw → Outside → Outside → Option D → ℕ → Ending
    → Type 0
IntakeLeaves d file clock draw before after None n end = HasNoDisk before after n end × SparesInput before after
IntakeLeaves d file clock draw before after (Some disk) n end =
    IntakeEnds d (taken_from before file) disk before.left clock draw n end
    × HasEndingCause (before.begins file) (d.fault_count disk) before.input_faults after.input_faults end

-- ---- load

-- A store was opened, and the batches of a seed were posted to it.
pub record LoadOpened {D : Type 0} (d : disks.Ghosts D) (taken : Taken) (disk : D) (seed count : ℕ) (draws : Draws)
    (clocks : List ℕ) (n : ℕ) (end : Ending) : Type 0 where
  pub limit : ℕ
  pub opened : List Entry
  -- what the batches gave that went well
  pub kept : List Entry
  pub final : List Entry
  pub store : IfSome taken.held (λ bytes. IsStoreOf bytes limit opened)
  pub ends : LoadsFrom limit seed count 0 draws (batch_count count) clocks opened kept final end
  pub leaves : LeavesLoaded d taken disk limit opened kept final n end

-- What load does over a disk, at these readings of the clock, with the draws from here on.
abbrev pub LoadEnds : {D : Type 0} → disks.Ghosts D → Taken → D → ℕ → ℕ → Draws → List ℕ → ℕ → Ending → Type 0
LoadEnds d taken disk seed count draws clocks n end = (LeavesUnopened d taken disk n end × (clocks ≡ []))
    ⊎ LoadOpened d taken disk seed count draws clocks n end

-- what load leaves, with the disk that it took or without one
abbrev pub LoadLeaves : {D : Type 0} → disks.Ghosts D → List ℕ → ℕ → ℕ → Draws → List ℕ → Outside → Outside → Option D
    → ℕ → Ending → Type 0
LoadLeaves d file seed count draws clocks before after None n end = HasNoDisk before after n end × (clocks ≡ [])
LoadLeaves d file seed count draws clocks before after (Some disk) n end =
    LoadEnds d (taken_from before file) disk seed count draws clocks n end
    × HasEndingCause (before.begins file) (d.fault_count disk) 0 0 end

-- ---- init

-- What the ending of init tells of the store that is made with this first entry, or isn't.
abbrev pub InitTells : ℕ → Entry → ℕ → Ending → Type 0
InitTells limit first n ending.Founded = (need_of_first (written_entry first) ≤ limit) × IsLegal limit (first ∷ [])
    × (n ≡ 1)
InitTells limit first n (ending.Full need most) = (need ≡ need_of_first (written_entry first)) × (most ≡ limit)
    × (limit < need) × (n ≡ 0)
InitTells limit first n ending.AlreadyStore = n ≡ 0
InitTells limit first n ending.NotAStore = n ≡ 0
InitTells limit first n ending.Memory = n ≡ 0
InitTells limit first n ending.DiskFault = n ≡ 0
InitTells limit first n other = ⊥

-- How init ends on a disk of these bytes, and what the disk holds then.
abbrev pub InitEnds : List ℕ → ℕ → Entry → Option (List ℕ) → Ending → Type 0
InitEnds bytes limit first told ending.Founded = IsOpenTo bytes × Holds told limit (first ∷ [])
InitEnds bytes limit first told (ending.Full need most) = IsOpenTo bytes × (told ≡ Some bytes)
InitEnds bytes limit first told ending.AlreadyStore = IsStore bytes × (told ≡ Some bytes)
InitEnds bytes limit first told ending.NotAStore = IsForeign bytes × (told ≡ Some bytes)
InitEnds bytes limit first told ending.Memory = told ≡ Some bytes
InitEnds bytes limit first told ending.DiskFault = ((IsOpenTo bytes → ⊥) → told ≡ Some bytes)
    × (IsOpenTo bytes → (now : List ℕ) × (told ≡ Some now) × IsMade limit (written_entry first) now)
InitEnds bytes limit first told other = ⊥

-- these bytes if no store may be made, else no store or the whole new one
abbrev pub IsSparedOrMade : List ℕ → ℕ → Entry → List ℕ → Type 0
IsSparedOrMade bytes limit first image =
    ((IsOpenTo bytes → ⊥) → image ≡ bytes) × (IsOpenTo bytes → IsMade limit (written_entry first) image)

-- What a stop of init leaves on a disk of these bytes, at any moment and after it.
abbrev pub InitStops : {D : Type 0} → disks.Ghosts D → Taken → D → List ℕ → ℕ → Entry → Ending → Type 0
InitStops d taken disk bytes limit first ending.Founded =
    AnyStopLeaves d taken disk (IsMade limit (written_entry first))
    × StopNowLeaves d disk (λ image. IsStoreOf image limit (first ∷ []))
InitStops d taken disk bytes limit first ending.DiskFault =
    AnyStopLeaves d taken disk (IsSparedOrMade bytes limit first)
InitStops d taken disk bytes limit first other = AnyStopLeaves d taken disk (λ image. image ≡ bytes)

-- What init does over a disk, with this first entry.
abbrev pub InitOnDisk : {D : Type 0} → disks.Ghosts D → Taken → D → ℕ → Entry → ℕ → Ending → Type 0
InitOnDisk d taken disk limit first n end = InitTells limit first n end
    × (taken.tide.moment ≤ d.time disk)
    × IfSome taken.held
    (λ bytes. InitEnds bytes limit first (d.told disk) end × InitStops d taken disk bytes limit first end)

-- what init leaves, with the disk that it took or without one
abbrev pub InitLeaves : {D : Type 0} → disks.Ghosts D → List ℕ → List ℕ → List ℕ → ℕ → ℕ → Outside → Outside → Option D
    → ℕ → Ending → Type 0
InitLeaves d file admin base limit clock before after None n end = HasNoDisk before after n end
InitLeaves d file admin base limit clock before after (Some disk) n end =
    InitOnDisk d (taken_from before file) disk limit (founding_entry admin base clock) n end
    × HasEndingCause (before.begins file) (d.fault_count disk) 0 0 end

-- ---- serve

-- No store was opened, and no door was asked for.
pub record ServesUnopened {D : Type 0} (d : disks.Ghosts D) (taken : Taken) (disk : D) (before after : Doors)
    (talks : List (List Talk)) (n : ℕ) (end : Ending) : Type 0 where
  pub leaves : LeavesUnopened d taken disk n end
  pub lobby : after ≡ before
  pub silent : talks ≡ []

-- No doors were had: the store stays as it was.
pub record ServesDoorless {D : Type 0} (d : disks.Ghosts D) (taken : Taken) (disk : D) (address : List ℕ) (workers : ℕ)
    (before after : Doors) (talks : List (List Talk)) (n : ℕ) (end : Ending) : Type 0 where
  pub limit : ℕ
  pub opened : List Entry
  pub store : IfSome taken.held (λ bytes. IsStoreOf bytes limit opened)
  pub none : HasNoDoor address workers before after end
  pub leaves : LeavesFinal d taken disk limit opened opened n end
  pub silent : talks ≡ []

-- Memory ran out before the workers began: the doors were given back as they came, and the store stays as it was.
pub record ServesNobody {D : Type 0} (d : disks.Ghosts D) (taken : Taken) (disk : D) (address : List ℕ) (workers : ℕ)
    (before after : Doors) (talks : List (List Talk)) (n : ℕ) (end : Ending) : Type 0 where
  pub limit : ℕ
  pub opened : List Entry
  pub store : IfSome taken.held (λ bytes. IsStoreOf bytes limit opened)
  pub openings : List DoorState
  pub doors : HadDoors address workers openings openings before after
  pub leaves : LeavesFinal d taken disk limit opened opened n end
  pub silent : talks ≡ []
  pub wanting : end ≡ ending.Memory

-- The connections of the doors were served: each response is the abstract store's reply over the one history that the
-- store finally has.
pub record ServesLinks {D : Type 0} (d : disks.Ghosts D) (taken : Taken) (disk : D) (address : List ℕ)
    (workers connections : ℕ) (seed : List ℕ) (before after : Doors) (talks : List (List Talk)) (n : ℕ)
    (end : Ending) : Type 0 where
  pub limit : ℕ
  pub opened : List Entry
  pub store : IfSome taken.held (λ bytes. IsStoreOf bytes limit opened)
  pub openings : List DoorState
  pub closings : List DoorState
  pub doors : HadDoors address workers openings closings before after
  pub why : ServeEnd
  pub ended : EndsService why talks (d.fault_count disk) end
  pub served : HoldsServed d taken disk limit opened connections seed openings closings talks n why end

-- the lobby's fault is told only if its count rose
abbrev pub HasLobbyCause : Doors → Doors → Ending → Type 0
HasLobbyCause before after end = end ≡ ending.LobbyFault → Rises before.faults after.faults

-- what serve does over a disk
abbrev pub ServesDisk : {D : Type 0} → disks.Ghosts D → Taken → D → List ℕ → ℕ → ℕ → List ℕ → Doors → Doors
    → List (List Talk) → ℕ → Ending → Type 0
ServesDisk d taken disk address workers connections seed before after talks n end = HasLobbyCause before after end
    × (ServesUnopened d taken disk before after talks n end
    ⊎ (ServesDoorless d taken disk address workers before after talks n end
    ⊎ (ServesNobody d taken disk address workers before after talks n end
    ⊎ ServesLinks d taken disk address workers connections seed before after talks n end)))

-- what serve leaves, with the disk that it took or without one
abbrev pub ServeLeaves : {D : Type 0} → disks.Ghosts D → List ℕ → List ℕ → ℕ → ℕ → List ℕ → Outside → Outside
    → Option D → List (List Talk) → ℕ → Ending → Type 0
ServeLeaves d file address workers connections seed before after None talks n end =
    HasNoDisk before after n end × SparesDoors before after × (talks ≡ [])
ServeLeaves d file address workers connections seed before after (Some disk) talks n end =
    HasEndingCause (before.begins file) (d.fault_count disk) 0 0 end
    × CountsOn (taken_from before file).tide talks (tide_at d.fault_count d.time disk)
    × ServesDisk d (taken_from before file) disk address workers connections seed before.lobby after.lobby talks n end

-- ---- migrate

-- What migrate leaves, with both disks, with that of the old store alone, or without any. The new one isn't asked for
-- unless the old one was had.
abbrev pub MigrateLeaves : {D : Type 0} → disks.Ghosts D → List ℕ → List ℕ → Option ℕ → Outside → Outside → Option D
    → Option D → Taken → ℕ → Ending → Type 0
MigrateLeaves d old new limit before after None None taken n end =
    TakesFile old before after × HasNoDisk before after n end
MigrateLeaves d old new limit before after None (Some disk) taken n end = ⊥
MigrateLeaves d old new limit before after (Some old_disk) None taken n end = TakesBoth old new before after
    × HasNoDisk before after n end × IsOnlyRead d (taken_from before old) old_disk
MigrateLeaves d old new limit before after (Some old_disk) (Some disk) taken n end = TakesBoth old new before after
    × MovesStore d (taken_from before old) taken old_disk disk limit n end
    × HasMoveCause (before.begins old) (d.fault_count old_disk) taken.tide.faults (d.fault_count disk) end

-- ---- the headline

-- A command that serves no connection: it reads the clock once, and asks for its one file. Its one ending is printed,
-- and gives the status.
pub record IsOneStep {D : Type 0} (file : List ℕ) (before after : Outside) (o : program.Ended D) (clock : ℕ)
    (end : Ending) : Type 0 where
  pub reads : ReadsOnce clock before after
  pub takes : TakesFile file before after
  pub doors : SparesDoors before after
  pub silent : IsSilent o
  pub old : o.old ≡ None
  pub prints : PrintsEnding end before after o.status

-- intake ends so, at this reading of the clock
abbrev pub IntakeRunsTo : {D : Type 0} → disks.Ghosts D → List ℕ → Draw → Outside → Outside → program.Ended D → ℕ
    → Ending → Type 0
IntakeRunsTo d file draw before after o clock end = IsOneStep file before after o clock end
    × IntakeLeaves d file clock draw before after o.disk o.report.length end

abbrev pub IntakeRuns : {D : Type 0} → disks.Ghosts D → List ℕ → Draw → Outside → Outside → program.Ended D → Type 0
IntakeRuns d file draw before after o =
    (clock : ℕ) × (end : Ending) × IntakeRunsTo d file draw before after o clock end

-- init ends so, at this reading of the clock
abbrev pub InitRunsTo : {D : Type 0} → disks.Ghosts D → List ℕ → List ℕ → List ℕ → ℕ → Outside → Outside
    → program.Ended D → ℕ → Ending → Type 0
InitRunsTo d file admin base limit before after o clock end = IsOneStep file before after o clock end
    × InitLeaves d file admin base limit clock before after o.disk o.report.length end

abbrev pub InitRuns : {D : Type 0} → disks.Ghosts D → List ℕ → List ℕ → List ℕ → ℕ → Outside → Outside → program.Ended D
    → Type 0
InitRuns d file admin base limit before after o =
    (clock : ℕ) × (end : Ending) × InitRunsTo d file admin base limit before after o clock end

-- load ends so, with a reading of the clock for each batch
abbrev pub LoadRunsTo : {D : Type 0} → disks.Ghosts D → List ℕ → ℕ → ℕ → Draws → Outside → Outside → program.Ended D
    → List ℕ → Ending → Type 0
LoadRunsTo d file seed count draws before after o clocks end = AddsReadings before.readings after.readings clocks
    × TakesFile file before after
    × SparesDoors before after
    × IsSilent o
    × (o.old ≡ None)
    × LoadLeaves d file seed count draws clocks before after o.disk o.report.length end
    × PrintsEnding end before after o.status

abbrev pub LoadRuns : {D : Type 0} → disks.Ghosts D → List ℕ → ℕ → ℕ → Draws → Outside → Outside → program.Ended D
    → Type 0
LoadRuns d file seed count draws before after o =
    (clocks : List ℕ) × (end : Ending) × LoadRunsTo d file seed count draws before after o clocks end

-- serve ends so; it reads no clock but those of its doors
abbrev pub ServeRunsTo : {D : Type 0} → disks.Ghosts D → List ℕ → List ℕ → ℕ → ℕ → List ℕ → Outside → Outside
    → program.Ended D → Ending → Type 0
ServeRunsTo d file address workers connections seed before after o end = (after.readings ≡ before.readings)
    × TakesFile file before after
    × (o.report.responses ≡ responses_of o.report.talks)
    × (o.old ≡ None)
    × ServeLeaves d file address workers connections seed before after o.disk o.report.talks o.report.length end
    × PrintsEnding end before after o.status

abbrev pub ServeRuns : {D : Type 0} → disks.Ghosts D → List ℕ → List ℕ → ℕ → ℕ → List ℕ → Outside → Outside
    → program.Ended D → Type 0
ServeRuns d file address workers connections seed before after o =
    (end : Ending) × ServeRunsTo d file address workers connections seed before after o end

-- Migrate ends so, with the new disk as it was taken. It reads no clock, and serves no connection.
pub record MigrateRunsTo {D : Type 0} (d : disks.Ghosts D) (old new : List ℕ) (limit : Option ℕ)
    (before after : Outside) (o : program.Ended D) (taken : Taken) (end : Ending) : Type 0 where
  pub readings : after.readings ≡ before.readings
  pub doors : SparesDoors before after
  pub silent : IsSilent o
  pub second : IsTakenSecond before old new taken
  pub leaves : MigrateLeaves d old new limit before after o.old o.disk taken o.report.length end
  pub prints : PrintsEnding end before after o.status

abbrev pub MigrateRuns : {D : Type 0} → disks.Ghosts D → List ℕ → List ℕ → Option ℕ → Outside → Outside
    → program.Ended D → Type 0
MigrateRuns d old new limit before after o =
    (taken : Taken) × (end : Ending) × MigrateRunsTo d old new limit before after o taken end

-- the one draw of intake is the first of stream 0, and those of load are the first ones
abbrev pub CommandRuns : {D : Type 0} → disks.Ghosts D → CommandLine → List ℕ → Outside → Outside → program.Ended D
    → Type 0
CommandRuns d (intake file) seed before after o = IntakeRuns d file (draw_at (start_of seed 0)) before after o
CommandRuns d (init w) seed before after o = SparesInput before after
    × InitRuns d w.file w.admin (base_of w) (limit_of w) before after o
CommandRuns d (serve w) seed before after o =
    SparesInput before after × ServeRuns d w.file w.address (workers_of w) (connections_of w) seed before after o
CommandRuns d (load w) seed before after o =
    SparesInput before after × LoadRuns d w.file (seed_of w) (count_of w) (start_of seed 0) before after o
CommandRuns d (migrate w) seed before after o =
    SparesInput before after × MigrateRuns d w.old w.new (chosen_limit_of w) before after o

-- Nothing but the output was used.
pub record IsIdle {D : Type 0} (before after : Outside) (o : program.Ended D) : Type 0 where
  pub holds : (file : List ℕ) → after.holds file ≡ before.holds file
  pub files : after.files ≡ before.files
  pub shelf : after.shelf_faults ≡ before.shelf_faults
  pub readings : after.readings ≡ before.readings
  pub input : SparesInput before after
  pub doors : SparesDoors before after
  pub disk : o.disk ≡ None
  pub old : o.old ≡ None
  pub length : o.report.length ≡ 0
  pub silent : IsSilent o

-- What a run of these words does: the command that they are, or `usage` if they are none. Running out of memory for the
-- words is free.
abbrev pub Runs : {D : Type 0} → disks.Ghosts D → List (List ℕ) → List ℕ → Outside → Outside → program.Ended D → Type 0
Runs d words seed before after o =
    ((c : CommandLine) × IsCommandLine words c × CommandRuns d c seed before after o)
    ⊎ ((((c : CommandLine) → IsCommandLine words c → ⊥) × IsIdle before after o
    × PrintsEnding ending.Usage before after o.status)
    ⊎ (IsIdle before after o × PrintsEnding ending.Memory before after o.status))
