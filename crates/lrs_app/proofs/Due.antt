-- A run in which nothing failed ends as is due: what `Runs` says of it, read for its ending.
use Rattle.std.proofs.Common.{◌≡◌, ◌≢◌, ◌⊎◌, ◌+◌, ℕ, zero, suc, List, [], ◌∷◌, length, map, Option, Some, None, IfSome, refl, sym, ap, ◌∙◌, subst, inl, inr, ⊎_elim}
use Rattle.lrs_disk.specs.Door.{DoorState, Returned}
use Rattle.lrs_disk.specs.declared.disk.Disk as disks
use Rattle.lrs_disk.specs.declared.lobby.Lobby as lobbies
use Rattle.lrs_disk.specs.declared.shelf.Shelf as shelves
use Rattle.lrs_disk.specs.declared.streams.Sink as sinks
use Rattle.lrs_disk.specs.declared.streams.Source as sources
use Rattle.lrs_names.specs.declared.draw.Draw.{Draw}
use Rattle.lrs_record.specs.declared.entry.Entry.{Entry}
use Rattle.lrs_generator.specs.Generated.{batch_count}
use Rattle.lrs_hall.specs.Conversation.{ActOn, Worker}
use Rattle.lrs_hall.specs.Draws.{Draws, draw_at, next_draws, start_of}
use Rattle.lrs_hall.specs.LrsFoldOwn.{founding_entry}
use Rattle.lrs_hall.specs.LrsHistoryHistory.{Answer, with_entry}
use Rattle.lrs_hall.specs.LrsMachineDesk.{IsDeskRefused, SparesLegal}
use Rattle.lrs_hall.specs.LrsMachineLine.{Record}
use Rattle.lrs_hall.specs.LrsMachineMigrating.{chosen, IsMovable, SparesMovable, StandsForEntries}
use Rattle.lrs_hall.specs.LrsMachineMigratingMigrateRefused.{MigrateRefused}
use Rattle.lrs_hall.specs.LrsMachineMigratingMigrateRefusedTheVariants as migrating
use Rattle.lrs_hall.specs.LrsMachineOpeningDeskRefused.{DeskRefused}
use Rattle.lrs_hall.specs.LrsMachineOpeningDeskRefusedTheVariants as refused
use Rattle.lrs_hall.specs.Serving.{AreOnLinks, EndsServing, Tide}
use Rattle.lrs_hall.specs.Talks.{Talk}
use Rattle.lrs_hall.specs.Workers.{AreStints, ServesDoors, Stint, end_of, end_with}
use Rattle.lrs_hall.specs.declared.serving.ServeEnd.{ServeEnd}
use Rattle.lrs_hall.specs.declared.serving.ServeEnd.TheVariants as serving
use Rattle.lrs_journal.specs.Create.{IsForeign, IsOpenTo, IsStore}
use Rattle.lrs_app.specs.Disks.{EndsUnopened, IsDamagedAt, LeavesUnopened, Taken}
use Rattle.lrs_app.specs.Doing.{IsUndone}
use Rattle.lrs_app.specs.Due.{AllServeToEnd, CommandEndsAsDue, EndsAsDue, GivesStatus, HasNothingMovable, InitEndsAsDue, IntakeEndsAsDue, IsCalm, IsCalmWithTwo, IsInitDue, IsIntakeDue, IsLoadDue, IsMigrateDue, HasNoLegalHistory, IsServeDue, IsStill, IsUnopenedDue, LoadEndsAsDue, MigrateEndsAsDue, ServeEndsAsDue}
use Rattle.lrs_app.specs.Load.{LoadsFrom, StopsLoading, post_answer}
use Rattle.lrs_app.specs.Migrate.{EndsUnmoved, IfBoth, LeavesMoved, MovesStore, ending_of_migration}
use Rattle.lrs_app.specs.Run.{Outside, CommandRuns, EndsOpened, HasEndingCause, InitEnds, InitLeaves, InitRuns, InitStops, InitTells, IntakeEnds, IntakeLeaves, IntakeRuns, LoadEnds, LoadLeaves, LoadRuns, MigrateLeaves, MigrateRuns, PrintsEnding, PrintsLine, Runs, ServeLeaves, ServeRuns, ServesDisk, outside, taken_from}
use Rattle.lrs_app.specs.Service.{Doors, HasNoDoor, ending_of_serving, responses_of}
use Rattle.lrs_app.specs.Steps.{ending_of}
use Rattle.lrs_app.specs.declared.program.Done as doing
use Rattle.lrs_app.specs.declared.program.Ended as program
use Rattle.lrs_app.specs.declared.program.Report.{Report}
use Rattle.lrs_command_line.specs.CommandLine.{CommandLine, init, intake, serve, load, migrate, base_of, chosen_limit_of, connections_of, count_of, limit_of, seed_of, workers_of}
use Rattle.lrs_console.specs.Asking.{InputKind, EndsAsking, IsTakenFor}
use Rattle.lrs_console.specs.declared.ending.Ending.{Ending}
use Rattle.lrs_console.specs.declared.ending.Ending.TheVariants as ending

-- ---- faults

if_both : {A : Type 0} (o : Option A) (P Q R : A → Type 0) → ((a : A) → P a → Q a → R a) → IfSome o P → IfSome o Q → IfSome o R
if_both None P Q R both p q = tt
if_both (Some a) P Q R both p q = both a p q

if_more : {A : Type 0} (o : Option A) (P Q : A → Type 0) → ((a : A) → P a → Q a) → IfSome o P → IfSome o Q
if_more None P Q more p = tt
if_more (Some a) P Q more p = more a p

-- a disk whose count is still isn't the cause of the ending
not_disk : (before now input_before input_now : ℕ) (end : Ending) → HasEndingCause before now input_before input_now end → IsStill before now → end ≡ ending.DiskFault → ⊥
not_disk before now input_before input_now end cause still is = still (subst (λ (e : Ending). HasEndingCause before now input_before input_now e) is cause)

not_input : (before now input_before input_now : ℕ) (end : Ending) → HasEndingCause before now input_before input_now end → IsStill input_before input_now → end ≡ ending.InputFault → ⊥
not_input before now input_before input_now end cause still is = still (subst (λ (e : Ending). HasEndingCause before now input_before input_now e) is cause)

-- the status is the ending's if the output's count is still
gives_status : (end : Ending) (before after : Outside) (status : ℕ) → PrintsEnding end before after status → GivesStatus end before after status
gives_status end before after status prints still = ⊎_elim (λ well. well.0) (λ failed. absurd (still failed.2)) prints

-- ---- no store was opened

unopened_by : (held told : Option (List ℕ)) (why : DeskRefused) → IfSome held (λ bytes. SparesLegal bytes why) → IfSome held (λ bytes. EndsUnopened bytes told (ending_of why))
    → (ending_of why ≡ ending.DiskFault → ⊥) → (ending_of why ≡ ending.Memory) ⊎ IsUnopenedDue held (ending_of why)
unopened_by held told refused.NotAStore spares holds no_fault =
    inr (if_both held (λ bytes. SparesLegal bytes refused.NotAStore) (λ bytes. EndsUnopened bytes told (ending_of refused.NotAStore)) (λ bytes. HasNoLegalHistory bytes × IsDeskRefused bytes refused.NotAStore) (λ bytes none ends. (none, ends.0)) spares holds)
unopened_by held told refused.OldFormat spares holds no_fault =
    inr (if_both held (λ bytes. SparesLegal bytes refused.OldFormat) (λ bytes. EndsUnopened bytes told (ending_of refused.OldFormat)) (λ bytes. HasNoLegalHistory bytes × IsDeskRefused bytes refused.OldFormat) (λ bytes none ends. (none, ends.0)) spares holds)
unopened_by held told (refused.Damaged k) spares holds no_fault =
    inr (if_both held (λ bytes. SparesLegal bytes (refused.Damaged k)) (λ bytes. EndsUnopened bytes told (ending_of (refused.Damaged k))) (λ bytes. HasNoLegalHistory bytes × IsDamagedAt bytes k) (λ bytes none ends. (none, ends.0)) spares holds)
unopened_by held told (refused.IllegalEntry k) spares holds no_fault =
    inr (if_both held (λ bytes. SparesLegal bytes (refused.IllegalEntry k)) (λ bytes. EndsUnopened bytes told (ending_of (refused.IllegalEntry k))) (λ bytes. HasNoLegalHistory bytes × IsDamagedAt bytes k) (λ bytes none ends. (none, ends.0)) spares holds)
unopened_by held told refused.Failed spares holds no_fault = absurd (no_fault refl)
unopened_by held told refused.Memory spares holds no_fault = inl refl

unopened : {D : Type 0} (d : disks.Ghosts D) (taken : Taken) (disk : D) (n : ℕ) (end : Ending) → LeavesUnopened d taken disk n end → (end ≡ ending.DiskFault → ⊥)
    → (end ≡ ending.Memory) ⊎ IsUnopenedDue taken.held end
unopened d taken disk n end leaves no_fault =
    subst (λ (e : Ending). (e ≡ ending.Memory) ⊎ IsUnopenedDue taken.held e) (sym leaves.ended)
    (unopened_by taken.held (d.told disk) leaves.why leaves.spares
    (subst (λ (e : Ending). IfSome taken.held (λ bytes. EndsUnopened bytes (d.told disk) e)) leaves.ended leaves.holds)
    (λ is. no_fault (leaves.ended ∙ is)))

-- ---- init

init_by : (held told : Option (List ℕ)) (limit : ℕ) (first : Entry) (n : ℕ) (end : Ending) → InitTells limit first n end → IfSome held (λ bytes. InitEnds bytes limit first told end)
    → (end ≡ ending.DiskFault → ⊥) → (end ≡ ending.Memory) ⊎ IsInitDue held limit first end
init_by held told limit first n ending.Founded tells ends no_fault =
    inr (if_more held (λ bytes. InitEnds bytes limit first told ending.Founded) IsOpenTo (λ bytes e. e.0) ends, tells.0)
init_by held told limit first n (ending.Kept id) tells ends no_fault = absurd tells
init_by held told limit first n (ending.Served responses) tells ends no_fault = absurd tells
init_by held told limit first n ending.OldFormat tells ends no_fault = absurd tells
init_by held told limit first n (ending.Migrated entries) tells ends no_fault = absurd tells
init_by held told limit first n (ending.Loaded statements listed) tells ends no_fault = absurd tells
init_by held told limit first n ending.Usage tells ends no_fault = absurd tells
init_by held told limit first n ending.NotAStore tells ends no_fault =
    inr (if_more held (λ bytes. InitEnds bytes limit first told ending.NotAStore) IsForeign (λ bytes e. e.0) ends)
init_by held told limit first n (ending.Damaged k) tells ends no_fault = absurd tells
init_by held told limit first n ending.AlreadyStore tells ends no_fault =
    inr (if_more held (λ bytes. InitEnds bytes limit first told ending.AlreadyStore) IsStore (λ bytes e. e.0) ends)
init_by held told limit first n ending.DiskFault tells ends no_fault = absurd (no_fault refl)
init_by held told limit first n ending.LobbyFault tells ends no_fault = absurd tells
init_by held told limit first n ending.Memory tells ends no_fault = inl refl
init_by held told limit first n (ending.Refused r) tells ends no_fault = absurd tells
init_by held told limit first n ending.NoId tells ends no_fault = absurd tells
init_by held told limit first n ending.TooLong tells ends no_fault = absurd tells
init_by held told limit first n (ending.Conflict id) tells ends no_fault = absurd tells
init_by held told limit first n ending.InputFault tells ends no_fault = absurd tells
init_by held told limit first n (ending.Full need most) tells ends no_fault =
    inr (if_more held (λ bytes. InitEnds bytes limit first told (ending.Full need most)) IsOpenTo (λ bytes e. e.0) ends, tells.0, tells.1, tells.2)

init_calm : {D : Type 0} (d : disks.Ghosts D) (file admin base : List ℕ) (limit clock : ℕ) (before after : Outside) (disk : Option D) (n : ℕ) (end : Ending)
    → InitLeaves d file admin base limit clock before after disk n end → IsCalm d file before after disk
    → (end ≡ ending.Memory) ⊎ IsInitDue (before.holds file) limit (founding_entry admin base clock) end
init_calm d file admin base limit clock before after None n end leaves calm = absurd (calm.shelf leaves.1)
init_calm d file admin base limit clock before after (Some disk) n end leaves calm =
    init_by (before.holds file) (d.told disk) limit (founding_entry admin base clock) n end leaves.0.0 (if_more (before.holds file)
    (λ bytes. InitEnds bytes limit (founding_entry admin base clock) (d.told disk) end × InitStops d (taken_from before file) disk bytes limit (founding_entry admin base clock) end)
    (λ bytes. InitEnds bytes limit (founding_entry admin base clock) (d.told disk) end) (λ bytes both. both.0) leaves.0.2)
    (not_disk (before.begins file) (d.fault_count disk) 0 0 end leaves.1 calm.disk)

-- ---- intake

-- what the input asked was answered, or something failed
abbrev IsAnswered : ℕ → List Entry → List ℕ → ℕ → Draw → Ending → Type 0
IsAnswered limit opened input clock draw end = (asked : InputKind) × IsTakenFor input asked × EndsAsking limit opened clock draw asked end

opened_by : (limit : ℕ) (opened final : List Entry) (input : List ℕ) (clock : ℕ) (draw : Draw) (end : Ending) → EndsOpened limit opened final input clock draw end
    → (end ≡ ending.DiskFault → ⊥) → (end ≡ ending.InputFault → ⊥) → (end ≡ ending.Memory) ⊎ IsAnswered limit opened input clock draw end
opened_by limit opened final input clock draw ending.Founded ends no_disk no_input = inr (ends.0, ends.1, ends.2)
opened_by limit opened final input clock draw (ending.Kept id) ends no_disk no_input = inr (ends.0, ends.1, ends.2)
opened_by limit opened final input clock draw (ending.Served responses) ends no_disk no_input = inr (ends.0, ends.1, ends.2)
opened_by limit opened final input clock draw ending.OldFormat ends no_disk no_input = inr (ends.0, ends.1, ends.2)
opened_by limit opened final input clock draw (ending.Migrated entries) ends no_disk no_input = inr (ends.0, ends.1, ends.2)
opened_by limit opened final input clock draw (ending.Loaded statements listed) ends no_disk no_input = inr (ends.0, ends.1, ends.2)
opened_by limit opened final input clock draw ending.Usage ends no_disk no_input = inr (ends.0, ends.1, ends.2)
opened_by limit opened final input clock draw ending.NotAStore ends no_disk no_input = inr (ends.0, ends.1, ends.2)
opened_by limit opened final input clock draw (ending.Damaged k) ends no_disk no_input = inr (ends.0, ends.1, ends.2)
opened_by limit opened final input clock draw ending.AlreadyStore ends no_disk no_input = inr (ends.0, ends.1, ends.2)
opened_by limit opened final input clock draw ending.DiskFault ends no_disk no_input = absurd (no_disk refl)
opened_by limit opened final input clock draw ending.LobbyFault ends no_disk no_input = inr (ends.0, ends.1, ends.2)
opened_by limit opened final input clock draw ending.Memory ends no_disk no_input = inl refl
opened_by limit opened final input clock draw (ending.Refused r) ends no_disk no_input = inr (ends.0, ends.1, ends.2)
opened_by limit opened final input clock draw ending.NoId ends no_disk no_input = inr (ends.0, ends.1, ends.2)
opened_by limit opened final input clock draw ending.TooLong ends no_disk no_input = inr (ends.0, ends.1, ends.2)
opened_by limit opened final input clock draw (ending.Conflict id) ends no_disk no_input = inr (ends.0, ends.1, ends.2)
opened_by limit opened final input clock draw ending.InputFault ends no_disk no_input = absurd (no_input refl)
opened_by limit opened final input clock draw (ending.Full need most) ends no_disk no_input = inr (ends.0, ends.1, ends.2)

intake_by : {D : Type 0} (d : disks.Ghosts D) (taken : Taken) (disk : D) (left : Option (List ℕ)) (clock : ℕ) (draw : Draw) (n : ℕ) (end : Ending) → IntakeEnds d taken disk left clock draw n end
    → (end ≡ ending.DiskFault → ⊥) → (end ≡ ending.InputFault → ⊥) → (end ≡ ending.Memory) ⊎ (IsUnopenedDue taken.held end ⊎ IsIntakeDue taken.held left clock draw end)
intake_by d taken disk left clock draw n end (inl none) no_disk no_input = ⊎_elim (λ memory. inl memory) (λ due. inr (inl due)) (unopened d taken disk n end none no_disk)
intake_by d taken disk left clock draw n end (inr store) no_disk no_input = ⊎_elim (λ memory. inl memory) (λ answered. inr (inr (record {
  limit = store.limit;
  opened = store.opened;
  store = store.store;
  input = store.input;
  reads = store.reads;
  asked = answered.0;
  takes = answered.1;
  ends = answered.2;
}))) (opened_by store.limit store.opened store.final store.input clock draw end store.ends no_disk no_input)

intake_calm : {D : Type 0} (d : disks.Ghosts D) (file : List ℕ) (clock : ℕ) (draw : Draw) (before after : Outside) (disk : Option D) (n : ℕ) (end : Ending)
    → IntakeLeaves d file clock draw before after disk n end → IsCalm d file before after disk
    → (end ≡ ending.Memory) ⊎ (IsUnopenedDue (before.holds file) end ⊎ IsIntakeDue (before.holds file) before.left clock draw end)
intake_calm d file clock draw before after None n end leaves calm = absurd (calm.shelf leaves.0.1)
intake_calm d file clock draw before after (Some disk) n end leaves calm =
    intake_by d (taken_from before file) disk before.left clock draw n end leaves.0
    (not_disk (before.begins file) (d.fault_count disk) before.input_faults after.input_faults end leaves.1 calm.disk)
    (not_input (before.begins file) (d.fault_count disk) before.input_faults after.input_faults end leaves.1 calm.input)

-- ---- load

stops_final : (h : List Entry) (a : Answer) (final : List Entry) (end : Ending) → StopsLoading h a final end → (end ≡ ending.DiskFault → ⊥) → final ≡ h
stops_final h a final ending.Founded stops no_disk = stops.1
stops_final h a final (ending.Kept id) stops no_disk = stops.1
stops_final h a final (ending.Served responses) stops no_disk = stops.1
stops_final h a final ending.OldFormat stops no_disk = stops.1
stops_final h a final (ending.Migrated entries) stops no_disk = stops.1
stops_final h a final (ending.Loaded statements listed) stops no_disk = stops.1
stops_final h a final ending.Usage stops no_disk = stops.1
stops_final h a final ending.NotAStore stops no_disk = stops.1
stops_final h a final (ending.Damaged k) stops no_disk = stops.1
stops_final h a final ending.AlreadyStore stops no_disk = stops.1
stops_final h a final ending.DiskFault stops no_disk = absurd (no_disk refl)
stops_final h a final ending.LobbyFault stops no_disk = stops.1
stops_final h a final ending.Memory stops no_disk = stops
stops_final h a final (ending.Refused r) stops no_disk = stops.1
stops_final h a final ending.NoId stops no_disk = stops.1
stops_final h a final ending.TooLong stops no_disk = stops.1
stops_final h a final (ending.Conflict id) stops no_disk = stops.1
stops_final h a final ending.InputFault stops no_disk = stops.1
stops_final h a final (ending.Full need most) stops no_disk = stops.1

-- unless the disk failed, the store has in the end what the batches gave that went well
all_kept : (limit seed n j : ℕ) (draws : Draws) (left : ℕ) (clocks : List ℕ) (h kept final : List Entry) (end : Ending) → LoadsFrom limit seed n j draws left clocks h kept final end
    → (end ≡ ending.DiskFault → ⊥) → kept ≡ final
all_kept limit seed n j draws zero [] h kept final end loads no_disk = loads.0 ∙ sym loads.1
all_kept limit seed n j draws zero (clock ∷ clocks) h kept final end loads no_disk = absurd loads
all_kept limit seed n j draws (suc left) [] h kept final end loads no_disk = loads.0 ∙ sym loads.1
all_kept limit seed n j draws (suc left) (clock ∷ clocks) h kept final end loads no_disk =
    ⊎_elim
    (λ on. all_kept limit seed n (j + 1) (next_draws draws) left clocks (with_entry h (post_answer limit h clock (draw_at draws) loads.0).entry) kept final end on.1 no_disk)
    (λ stops. stops.1 ∙ sym (stops_final h (post_answer limit h clock (draw_at draws) loads.0) final end stops.2 no_disk)) loads.2

is_memory : (end : Ending) → (end ≡ ending.Memory) ⊎ (end ≢ ending.Memory)
is_memory ending.Founded = inr (λ e. cc)
is_memory (ending.Kept id) = inr (λ e. cc)
is_memory (ending.Served responses) = inr (λ e. cc)
is_memory ending.OldFormat = inr (λ e. cc)
is_memory (ending.Migrated entries) = inr (λ e. cc)
is_memory (ending.Loaded statements listed) = inr (λ e. cc)
is_memory ending.Usage = inr (λ e. cc)
is_memory ending.NotAStore = inr (λ e. cc)
is_memory (ending.Damaged k) = inr (λ e. cc)
is_memory ending.AlreadyStore = inr (λ e. cc)
is_memory ending.DiskFault = inr (λ e. cc)
is_memory ending.LobbyFault = inr (λ e. cc)
is_memory ending.Memory = inl refl
is_memory (ending.Refused r) = inr (λ e. cc)
is_memory ending.NoId = inr (λ e. cc)
is_memory ending.TooLong = inr (λ e. cc)
is_memory (ending.Conflict id) = inr (λ e. cc)
is_memory ending.InputFault = inr (λ e. cc)
is_memory (ending.Full need most) = inr (λ e. cc)

load_by : {D : Type 0} (d : disks.Ghosts D) (taken : Taken) (disk : D) (seed count : ℕ) (draws : Draws) (clocks : List ℕ) (n : ℕ) (end : Ending) → LoadEnds d taken disk seed count draws clocks n end
    → (end ≡ ending.DiskFault → ⊥) → (end ≡ ending.Memory) ⊎ (IsUnopenedDue taken.held end ⊎ IsLoadDue taken.held seed count draws clocks end)
load_by d taken disk seed count draws clocks n end (inl none) no_disk = ⊎_elim (λ memory. inl memory) (λ due. inr (inl due)) (unopened d taken disk n end none.0 no_disk)
load_by d taken disk seed count draws clocks n end (inr store) no_disk = ⊎_elim (λ memory. inl memory) (λ lasts. inr (inr (record {
  limit = store.limit;
  opened = store.opened;
  final = store.final;
  store = store.store;
  ends = subst (λ (kept : List Entry). LoadsFrom store.limit seed count 0 draws (batch_count count) clocks store.opened kept store.final end)
      (all_kept store.limit seed count 0 draws (batch_count count) clocks store.opened store.kept store.final end store.ends no_disk) store.ends;
  unstopped = (lasts, no_disk);
}))) (is_memory end)

load_calm : {D : Type 0} (d : disks.Ghosts D) (file : List ℕ) (seed count : ℕ) (draws : Draws) (clocks : List ℕ) (before after : Outside) (disk : Option D) (n : ℕ) (end : Ending)
    → LoadLeaves d file seed count draws clocks before after disk n end → IsCalm d file before after disk
    → (end ≡ ending.Memory) ⊎ (IsUnopenedDue (before.holds file) end ⊎ IsLoadDue (before.holds file) seed count draws clocks end)
load_calm d file seed count draws clocks before after None n end leaves calm = absurd (calm.shelf leaves.0.1)
load_calm d file seed count draws clocks before after (Some disk) n end leaves calm =
    load_by d (taken_from before file) disk seed count draws clocks n end leaves.0 (not_disk (before.begins file) (d.fault_count disk) 0 0 end leaves.1 calm.disk)

-- ---- serve

talks_on_links : {X : Type 0} (acts : ActOn X) (talks : List Talk) (links : List Returned) (old new : Worker X) → AreOnLinks acts talks links old new → length talks ≡ length links
talks_on_links acts [] [] old new on = refl
talks_on_links acts [] (link ∷ links) old new on = absurd on
talks_on_links acts (talk ∷ talks) [] old new on = absurd on
talks_on_links acts (talk ∷ talks) (link ∷ links) old new on = ap (λ (n : ℕ). suc n) (talks_on_links acts talks links on.0 new on.2)

both_done : (end next : ServeEnd) → end_with end next ≡ serving.Done → (end ≡ serving.Done) × (next ≡ serving.Done)
both_done serving.Done next is = (refl, is)
both_done serving.DoorFault next is = absurd (let no : ⊥ = cc is in no)
both_done serving.Memory serving.Done is = absurd (let no : ⊥ = cc is in no)
both_done serving.Memory serving.DoorFault is = absurd (let no : ⊥ = cc is in no)
both_done serving.Memory serving.Memory is = absurd (let no : ⊥ = cc is in no)

-- all workers have served to the end if none ended otherwise
stints_to_end : (limit : ℕ) (line : List Record) (opened : ℕ) (opening closing : Tide) (connections : ℕ) (seed : List ℕ) (number : ℕ) (stints : List Stint)
    → AreStints limit line opened opening closing connections seed number stints → end_of (map (λ (s : Stint). s.end) stints) ≡ serving.Done
    → AllServeToEnd connections (map (λ (s : Stint). s.before) stints) (map (λ (s : Stint). s.behind) stints) (map (λ (s : Stint). s.talks) stints)
stints_to_end limit line opened opening closing connections seed number [] all is = tt
stints_to_end limit line opened opening closing connections seed number (s ∷ stints) all is =
    let both = both_done s.end (end_of (map (λ (t : Stint). t.end) stints)) is in (
      record {
        links = all.0.links;
        through = all.0.through;
        each = talks_on_links _ s.talks all.0.links _ _ all.0.on_links;
        why = subst (λ (e : ServeEnd). EndsServing connections (length s.talks) s.before s.behind e) both.0 all.0.why;
      },
      stints_to_end limit line opened opening closing connections seed (number + 1) stints all.1 both.1,
    )

doors_to_end : (limit : ℕ) (opened line : List Record) (opening closing : Tide) (connections : ℕ) (seed : List ℕ) (openings closings : List DoorState) (talks : List (List Talk))
    → ServesDoors limit opened line opening closing connections seed openings closings talks serving.Done → AllServeToEnd connections openings closings talks
doors_to_end limit opened line opening closing connections seed openings closings talks serves =
    subst (λ (ts : List (List Talk)). AllServeToEnd connections openings closings ts) serves.all_talks
    (subst (λ (ds : List DoorState). AllServeToEnd connections openings ds (map (λ (s : Stint). s.talks) serves.stints)) serves.doors_behind
    (subst (λ (ds : List DoorState). AllServeToEnd connections ds (map (λ (s : Stint). s.behind) serves.stints) (map (λ (s : Stint). s.talks) serves.stints)) serves.doors_before
    (stints_to_end limit line (length opened) opening closing connections seed 1 serves.stints serves.each (sym serves.ended))))

-- serving ended so: all workers have served to the end, or something failed
served_by : (limit : ℕ) (opened line : List Record) (opening closing : Tide) (connections : ℕ) (seed : List ℕ) (openings closings : List DoorState) (talks : List (List Talk)) (why : ServeEnd) (end : Ending)
    → ServesDoors limit opened line opening closing connections seed openings closings talks why → end ≡ ending_of_serving why talks → (end ≡ ending.LobbyFault → ⊥)
    → (end ≡ ending.Memory) ⊎ (AllServeToEnd connections openings closings talks × (end ≡ ending.Served (responses_of talks)))
served_by limit opened line opening closing connections seed openings closings talks serving.Done end serves is no_lobby =
    inr (doors_to_end limit opened line opening closing connections seed openings closings talks serves, is)
served_by limit opened line opening closing connections seed openings closings talks serving.DoorFault end serves is no_lobby = absurd (no_lobby is)
served_by limit opened line opening closing connections seed openings closings talks serving.Memory end serves is no_lobby = inl is

no_door : (address : List ℕ) (workers : ℕ) (before after : Doors) (end : Ending) → HasNoDoor address workers before after end → (end ≡ ending.LobbyFault → ⊥) → end ≡ ending.Memory
no_door address workers before after ending.Founded none no_lobby = absurd none
no_door address workers before after (ending.Kept id) none no_lobby = absurd none
no_door address workers before after (ending.Served responses) none no_lobby = absurd none
no_door address workers before after ending.OldFormat none no_lobby = absurd none
no_door address workers before after (ending.Migrated entries) none no_lobby = absurd none
no_door address workers before after (ending.Loaded statements listed) none no_lobby = absurd none
no_door address workers before after ending.Usage none no_lobby = absurd none
no_door address workers before after ending.NotAStore none no_lobby = absurd none
no_door address workers before after (ending.Damaged k) none no_lobby = absurd none
no_door address workers before after ending.AlreadyStore none no_lobby = absurd none
no_door address workers before after ending.DiskFault none no_lobby = absurd none
no_door address workers before after ending.LobbyFault none no_lobby = absurd (no_lobby refl)
no_door address workers before after ending.Memory none no_lobby = refl
no_door address workers before after (ending.Refused r) none no_lobby = absurd none
no_door address workers before after ending.NoId none no_lobby = absurd none
no_door address workers before after ending.TooLong none no_lobby = absurd none
no_door address workers before after (ending.Conflict id) none no_lobby = absurd none
no_door address workers before after ending.InputFault none no_lobby = absurd none
no_door address workers before after (ending.Full need most) none no_lobby = absurd none

module _ {D : Type 0} (d : disks.Ghosts D) (taken : Taken) (disk : D) (address : List ℕ) (workers connections : ℕ) (seed : List ℕ) (before after : Doors) (talks : List (List Talk)) (n : ℕ) (end : Ending)
    (no_disk : end ≡ ending.DiskFault → ⊥) (no_lobby : end ≡ ending.LobbyFault → ⊥) where
  serve_by : ServesDisk d taken disk address workers connections seed before after talks n end
      → (end ≡ ending.Memory) ⊎ (IsUnopenedDue taken.held end ⊎ IsServeDue taken.held address workers connections before after talks end)
  serve_by (cause, inl none) = ⊎_elim (λ memory. inl memory) (λ due. inr (inl due)) (unopened d taken disk n end none.leaves no_disk)
  serve_by (cause, inr (inl none)) = inl (no_door address workers before after end none.none no_lobby)
  serve_by (cause, inr (inr (inl nobody))) = inl nobody.wanting
  serve_by (cause, inr (inr (inr links))) =
      let is = ⊎_elim (λ well. well) (λ failed. absurd (no_disk failed.0)) links.ended in
      ⊎_elim (λ memory. inl memory) (λ served. inr (inr (record {
        limit = links.limit;
        opened = links.opened;
        store = links.store;
        openings = links.openings;
        closings = links.closings;
        doors = links.doors;
        each = served.0;
        served = served.1;
      }))) (served_by links.limit _ links.served.line links.served.began links.served.served connections seed links.openings links.closings talks links.why end links.served.serves is no_lobby)

serve_calm : {D : Type 0} (d : disks.Ghosts D) (file address : List ℕ) (workers connections : ℕ) (seed : List ℕ) (before after : Outside) (disk : Option D) (talks : List (List Talk)) (n : ℕ) (end : Ending)
    → ServeLeaves d file address workers connections seed before after disk talks n end → IsCalm d file before after disk
    → (end ≡ ending.Memory) ⊎ (IsUnopenedDue (before.holds file) end ⊎ IsServeDue (before.holds file) address workers connections before.lobby after.lobby talks end)
serve_calm d file address workers connections seed before after None talks n end leaves calm = absurd (calm.shelf leaves.0.1)
serve_calm d file address workers connections seed before after (Some disk) talks n end leaves calm =
    serve_by d (taken_from before file) disk address workers connections seed before.lobby after.lobby talks n end
    (not_disk (before.begins file) (d.fault_count disk) 0 0 end leaves.0 calm.disk) (λ is. calm.lobby (leaves.2.0 is)) leaves.2

-- ---- migrate

-- the due ending where the store was moved
move_due : {D : Type 0} (d : disks.Ghosts D) (old new : Taken) (disk : D) (limit : Option ℕ) (n : ℕ) (end : Ending) → LeavesMoved d old new disk limit n end
    → IsMigrateDue old.held new.held limit end
move_due d old new disk limit n end leaves =
    subst (λ (e : Ending). IsMigrateDue old.held new.held limit e) (sym leaves.ended) (record {
      entries = leaves.entries;
      counts = (refl, leaves.some);
      store = if_more old.held (λ was. (own : ℕ) × StandsForEntries was own leaves.entries × (leaves.most ≡ chosen limit own))
          (λ was. (own : ℕ) × StandsForEntries was own leaves.entries × IsMovable (chosen limit own) leaves.entries)
          (λ was store. (store.0, store.1, subst (λ (most : ℕ). IsMovable most leaves.entries) store.2 leaves.movable)) leaves.store;
      free = leaves.free;
    })

-- of two disks that tell what they held
of_both : (old new : Option (List ℕ)) (P Q R : List ℕ → List ℕ → Type 0) → ((was bytes : List ℕ) → P was bytes → Q was bytes → R was bytes) → IfBoth old new P → IfBoth old new Q → IfBoth old new R
of_both None new P Q R both p q = tt
of_both (Some was) None P Q R both p q = tt
of_both (Some was) (Some bytes) P Q R both p q = both was bytes p q

unmoved_by : (old new : Option (List ℕ)) (limit : Option ℕ) (why : MigrateRefused) → IfBoth old new (λ was bytes. SparesMovable was bytes limit why)
    → IfBoth old new (λ was bytes. EndsUnmoved was bytes limit (ending_of_migration why)) → (ending_of_migration why ≡ ending.DiskFault → ⊥)
    → (ending_of_migration why ≡ ending.Memory) ⊎ IsMigrateDue old new limit (ending_of_migration why)
unmoved_by old new limit why spares ends no_fault = by_refusal why spares ends no_fault
  where
    due : (why : MigrateRefused) → ((was bytes : List ℕ) → SparesMovable was bytes limit why → HasNothingMovable was bytes limit) → IfBoth old new (λ was bytes. SparesMovable was bytes limit why)
        → IfBoth old new (λ was bytes. EndsUnmoved was bytes limit (ending_of_migration why))
        → IfBoth old new (λ was bytes. HasNothingMovable was bytes limit × EndsUnmoved was bytes limit (ending_of_migration why))
    due why none spares ends = of_both old new (λ was bytes. SparesMovable was bytes limit why) (λ was bytes. EndsUnmoved was bytes limit (ending_of_migration why))
        (λ was bytes. HasNothingMovable was bytes limit × EndsUnmoved was bytes limit (ending_of_migration why)) (λ was bytes s e. (none was bytes s, e)) spares ends

    by_refusal : (why : MigrateRefused) → IfBoth old new (λ was bytes. SparesMovable was bytes limit why)
        → IfBoth old new (λ was bytes. EndsUnmoved was bytes limit (ending_of_migration why)) → (ending_of_migration why ≡ ending.DiskFault → ⊥)
        → (ending_of_migration why ≡ ending.Memory) ⊎ IsMigrateDue old new limit (ending_of_migration why)
    by_refusal migrating.NotAStore spares ends no_fault = inr (due migrating.NotAStore (λ was bytes s own h stands some movable free. s stands.0 own h stands.1 some movable free) spares ends)
    by_refusal migrating.AlreadyStore spares ends no_fault = inr (due migrating.AlreadyStore (λ was bytes s own h stands some movable free. s stands.0 own h stands.1 some movable free) spares ends)
    by_refusal migrating.Foreign spares ends no_fault = inr (due migrating.Foreign (λ was bytes s own h stands some movable free. s stands.0 own h stands.1 some movable free) spares ends)
    by_refusal (migrating.Damaged k) spares ends no_fault = inr (due (migrating.Damaged k) (λ was bytes s own h stands some movable free. s stands.0 own h stands.1 some movable free) spares ends)
    by_refusal (migrating.IllegalEntry k) spares ends no_fault = inr (due (migrating.IllegalEntry k) (λ was bytes s own h stands some movable free. s stands.0 own h stands.1 some movable free) spares ends)
    by_refusal (migrating.Full need most) spares ends no_fault = inr (due (migrating.Full need most) (λ was bytes s own h stands some movable free. s stands.0 own h stands.1 some movable free) spares ends)
    by_refusal migrating.Failed spares ends no_fault = absurd (no_fault refl)
    by_refusal migrating.Memory spares ends no_fault = inl refl

migrate_by : {D : Type 0} (d : disks.Ghosts D) (old new : Taken) (old_disk disk : D) (limit : Option ℕ) (n : ℕ) (end : Ending) → MovesStore d old new old_disk disk limit n end
    → (end ≡ ending.DiskFault → ⊥) → (end ≡ ending.Memory) ⊎ IsMigrateDue old.held new.held limit end
migrate_by d old new old_disk disk limit n end (read, inl moved) no_fault = inr (move_due d old new disk limit n end moved)
migrate_by d old new old_disk disk limit n end (read, inr unmoved) no_fault =
    subst (λ (e : Ending). (e ≡ ending.Memory) ⊎ IsMigrateDue old.held new.held limit e) (sym unmoved.ended)
    (unmoved_by old.held new.held limit unmoved.why unmoved.spares
    (subst (λ (e : Ending). IfBoth old.held new.held (λ was bytes. EndsUnmoved was bytes limit e)) unmoved.ended unmoved.because)
    (λ is. no_fault (unmoved.ended ∙ is)))

migrate_calm : {D : Type 0} (d : disks.Ghosts D) (old new : List ℕ) (limit : Option ℕ) (before after : Outside) (old_back back : Option D) (taken : Taken) (n : ℕ) (end : Ending)
    → MigrateLeaves d old new limit before after old_back back taken n end → IsCalmWithTwo d old taken before after old_back back
    → (end ≡ ending.Memory) ⊎ IsMigrateDue (before.holds old) taken.held limit end
migrate_calm d old new limit before after None None taken n end (takes, none) calm = absurd (calm.shelf none.1)
migrate_calm d old new limit before after None (Some disk) taken n end leaves calm = absurd leaves
migrate_calm d old new limit before after (Some old_disk) None taken n end (takes, none, read) calm = absurd (calm.shelf none.1)
migrate_calm d old new limit before after (Some old_disk) (Some disk) taken n end (takes, moves, cause) calm =
    migrate_by d (taken_from before old) taken old_disk disk limit n end moves (λ is. ⊎_elim (λ rises. calm.first rises) (λ rises. calm.second rises) (cause is))

-- ---- runs

module _ {D : Type 0} (d : disks.Ghosts D) (seed : List ℕ) (before after : Outside) (o : program.Ended D) where
  init_due : (file admin base : List ℕ) (limit : ℕ) → InitRuns d file admin base limit before after o → InitEndsAsDue d file admin base limit before after o
  init_due file admin base limit (clock, end, runs) = (
    clock,
    end,
    runs,
    record {
      calm = init_calm d file admin base limit clock before after o.disk o.report.length end runs.1;
      status = gives_status end before after o.status runs.0.prints;
    },
  )

  intake_due : (file : List ℕ) (draw : Draw) → IntakeRuns d file draw before after o → IntakeEndsAsDue d file draw before after o
  intake_due file draw (clock, end, runs) = (
    clock,
    end,
    runs,
    record {
      calm = intake_calm d file clock draw before after o.disk o.report.length end runs.1;
      status = gives_status end before after o.status runs.0.prints;
    },
  )

  load_due : (file : List ℕ) (number count : ℕ) (draws : Draws) → LoadRuns d file number count draws before after o → LoadEndsAsDue d file number count draws before after o
  load_due file number count draws (clocks, end, runs) = (
    clocks,
    end,
    runs,
    record {
      calm = load_calm d file number count draws clocks before after o.disk o.report.length end runs.5;
      status = gives_status end before after o.status runs.6;
    },
  )

  serve_due : (file address : List ℕ) (workers connections : ℕ) → ServeRuns d file address workers connections seed before after o → ServeEndsAsDue d file address workers connections seed before after o
  serve_due file address workers connections (end, runs) = (
    end,
    runs,
    record {
      calm = serve_calm d file address workers connections seed before after o.disk o.report.talks o.report.length end runs.4;
      status = gives_status end before after o.status runs.5;
    },
  )

  migrate_due : (old new : List ℕ) (limit : Option ℕ) → MigrateRuns d old new limit before after o → MigrateEndsAsDue d old new limit before after o
  migrate_due old new limit (taken, end, runs) = (
    taken,
    end,
    runs,
    λ calm. migrate_calm d old new limit before after o.old o.disk taken o.report.length end runs.leaves calm,
    gives_status end before after o.status runs.prints,
  )

  command_due : (c : CommandLine) → CommandRuns d c seed before after o → CommandEndsAsDue d c seed before after o
  command_due (init w) runs = (runs.0, init_due w.file w.admin (base_of w) (limit_of w) runs.1)
  command_due (intake file) runs = intake_due file (draw_at (start_of seed 0)) runs
  command_due (serve w) runs = (runs.0, serve_due w.file w.address (workers_of w) (connections_of w) runs.1)
  command_due (load w) runs = (runs.0, load_due w.file (seed_of w) (count_of w) (start_of seed 0) runs.1)
  command_due (migrate w) runs = (runs.0, migrate_due w.old w.new (chosen_limit_of w) runs.1)

  -- a run ends as is due
  pub ends_as_due : (words : List (List ℕ)) → Runs d words seed before after o → EndsAsDue d words seed before after o
  ends_as_due words (inl (c, is, runs)) = inl (c, is, command_due c runs)
  ends_as_due words (inr (inl (none, idle, prints))) = inr (ending.Usage, idle, prints, gives_status ending.Usage before after o.status prints, inr (refl, none))
  ends_as_due words (inr (inr (idle, prints))) = inr (ending.Memory, idle, prints, gives_status ending.Memory before after o.status prints, inl refl)

-- without memory for the words nothing but the output is used
pub idle_as_due : {S D B E L I O : Type 0} (d : disks.Ghosts D) (s : shelves.Ghosts S D) (b : lobbies.Ghosts B E L) (i : sources.Ghosts I) (o : sinks.Ghosts O)
    (shelf : S) (lobby : B) (input : I) (out out_now : O) (words : List (List ℕ)) (seed : List ℕ) (done : doing.Done D) (ended : program.Ended D)
    → IsUndone ending.Memory done → ended.disk ≡ done.disk → ended.old ≡ done.old → ended.report ≡ done.report → PrintsLine o done.ending out out_now ended.status
    → EndsAsDue d words seed (outside s b i o shelf lobby input out) (outside s b i o shelf lobby input out_now) ended
idle_as_due d s b i o shelf lobby input out out_now words seed done ended undone same_disk same_old same_report prints =
    ends_as_due d seed (outside s b i o shelf lobby input out) (outside s b i o shelf lobby input out_now) ended words (inr (inr (
      record {
        holds = λ file. refl;
        files = refl;
        shelf = refl;
        readings = refl;
        input = record { left = refl; faults = refl };
        doors = refl;
        disk = same_disk ∙ undone.disk;
        old = same_old ∙ undone.old;
        length = ap (λ (r : Report). r.length) same_report ∙ undone.length;
        silent = (ap (λ (r : Report). r.talks) same_report ∙ undone.talks, ap (λ (r : Report). r.responses) same_report ∙ undone.responses);
      },
      subst (λ (end : Ending). PrintsLine o end out out_now ended.status) undone.ended prints,
    )))
