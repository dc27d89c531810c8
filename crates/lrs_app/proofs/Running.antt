-- From the steps of a command to what a run says.
use Rattle.std.proofs.Common.{◌≤◌, ◌≡◌, append-nil, ℕ, List, [], Option, Some, None, IfSome, MatchOption, option_map, Result, Ok, Err, IfOk, ap, refl, sym, ◌∙◌, subst, arith}
use Rattle.std.specs.Option.{option_map_or}
use Rattle.std.specs.Str.Parse.{digits_value}
use Rattle.lrs_disk.specs.Door.{DoorState}
use Rattle.lrs_disk.specs.Faults.{HasCause}
use Rattle.lrs_disk.specs.Lobby.{DoorsAsked}
use Rattle.lrs_disk.specs.declared.failed.Failed.{Failed}
use Rattle.lrs_disk.specs.Shelf.{AddsName}
use Rattle.lrs_disk.specs.declared.disk.Disk as disks
use Rattle.lrs_disk.specs.declared.lobby.Lobby as lobbies
use Rattle.lrs_disk.specs.declared.shelf.Shelf as shelves
use Rattle.lrs_disk.specs.declared.streams.Sink as sinks
use Rattle.lrs_disk.specs.declared.streams.Source as sources
use Rattle.lrs_names.specs.declared.draw.Draw.{Draw}
use Rattle.lrs_record.specs.declared.entry.Entry.{Entry}
use Rattle.lrs_hall.specs.Draws.{Draws, draw_at, start_of}
use Rattle.lrs_hall.specs.Serving.{AddsReadings, tide_at}
use Rattle.lrs_command_line.specs.CommandLine.{CommandLine, init, intake, serve, load, migrate, IsInRange, IsNumberIn, base_of, chosen_limit_of, seed_of, workers_of}
use Rattle.lrs_command_line.specs.Shapes.{Denotes}
use Rattle.lrs_command_line.specs.declared.words.ProgramCommand.{ProgramCommand}
use Rattle.lrs_command_line.specs.declared.words.ProgramCommand.TheVariants as words
use Rattle.lrs_console.specs.declared.ending.Ending.{Ending}
use Rattle.lrs_hall.specs.LrsFoldOwn.{founding_entry}
use Rattle.lrs_parts.specs.Founding.{IsBase, IsToken}
use Rattle.lrs_turn.specs.declared.turns.TheConstants.{MOST_PASSES}
use Rattle.lrs_journal.specs.Store.{IsLimit}
use Rattle.lrs_journal.specs.declared.sizes.TheConstants.{LEAST_BYTES, MOST_BYTES}
use Rattle.lrs_hall.specs.Talks.{Talk}
use Rattle.lrs_app.specs.Disks.{Taken, taken_now}
use Rattle.lrs_app.specs.Doing.{InitDoes, IntakeDoes, LoadDoes, ServeDoes}
use Rattle.lrs_app.specs.Service.{CountsOn, Doors, responses_of}
use Rattle.lrs_app.specs.declared.program.Done as doing
use Rattle.lrs_app.specs.declared.program.Ended as program
use Rattle.lrs_app.specs.declared.program.Report.{Report}
use Rattle.lrs_app.specs.Steps.{DenotesInRange}
use Rattle.lrs_app.specs.Run.{Outside, HasEndingCause, IntakeEnds, IntakeLeaves, IntakeRuns, InitLeaves, InitOnDisk, InitRuns, IsOneStep, LoadEnds, LoadLeaves, LoadRuns, MigrateRuns, PrintsEnding, ReadsOnce, SparesDoors, SparesInput, ServeLeaves, ServeRuns, ServesDisk, TakesFile, CommandRuns, outside, taken_from}

-- what a lobby tells of its doors is the same
pub same_doors : {a b : Option (List DoorsAsked)} {c d : Option (List DoorState)} {m n : ℕ} → a ≡ b → c ≡ d → m ≡ n
    → ◌≡◌ {A = Doors} (record { asked = a; returned = c; faults = m }) (record { asked = b; returned = d; faults = n })
same_doors e f g = cc

-- the file was asked for under its name
pub takes_file : (old new : Option (List (List ℕ))) {name file : List ℕ} → name ≡ file → AddsName old new name → AddsName old new file
takes_file old new same adds = subst (λ (f : List ℕ). AddsName old new f) same adds

-- the disk of a file is taken as the shelf tells of it
pub same_taken : (told : Option (List ℕ)) (count moment : ℕ) (holds : List ℕ → Option (List ℕ)) (begins starts : List ℕ → ℕ) {name file : List ℕ}
    → name ≡ file → told ≡ holds name → count ≡ begins name → moment ≡ starts name
    → ◌≡◌ {A = Taken} (record { held = told; tide = record { faults = count; moment = moment } })
    (record { held = holds file; tide = record { faults = begins file; moment = starts file } })
same_taken told count moment holds begins starts {name} {file} same tells counts passes =
    let t : told ≡ holds file = tells ∙ ap holds same in
    let c : count ≡ begins file = counts ∙ ap begins same in
    let m : moment ≡ starts file = passes ∙ ap starts same in
    cc

-- what a command does over the disk as it is taken, it does over the file's
module _ {D : Type 0} (d : disks.Ghosts D) (disk : D) (taken : Taken) (n : ℕ) (end : Ending) where
  pub intake_leaves : (old : D) (left : Option (List ℕ)) (clock : ℕ) (draw : Draw) (input_count input_now : ℕ) → taken_now d old ≡ taken
      → IntakeEnds d (taken_now d old) disk left clock draw n end → HasEndingCause (d.fault_count old) (d.fault_count disk) input_count input_now end
      → IntakeEnds d taken disk left clock draw n end × HasEndingCause taken.tide.faults (d.fault_count disk) input_count input_now end
  intake_leaves old left clock draw input_count input_now same ends cause = (
    subst (λ (t : Taken). IntakeEnds d t disk left clock draw n end) same ends,
    subst (λ (t : Taken). HasEndingCause t.tide.faults (d.fault_count disk) input_count input_now end) same cause,
  )

  pub load_leaves : (old : D) (seed count : ℕ) (draws : Draws) (clocks : List ℕ) → taken_now d old ≡ taken
      → LoadEnds d (taken_now d old) disk seed count draws clocks n end → HasEndingCause (d.fault_count old) (d.fault_count disk) 0 0 end
      → LoadEnds d taken disk seed count draws clocks n end × HasEndingCause taken.tide.faults (d.fault_count disk) 0 0 end
  load_leaves old seed count draws clocks same ends cause = (
    subst (λ (t : Taken). LoadEnds d t disk seed count draws clocks n end) same ends,
    subst (λ (t : Taken). HasEndingCause t.tide.faults (d.fault_count disk) 0 0 end) same cause,
  )

  pub init_leaves : (old : D) (limit : ℕ) (first : Entry) → taken_now d old ≡ taken
      → InitOnDisk d (taken_now d old) disk limit first n end → HasEndingCause (d.fault_count old) (d.fault_count disk) 0 0 end
      → InitOnDisk d taken disk limit first n end × HasEndingCause taken.tide.faults (d.fault_count disk) 0 0 end
  init_leaves old limit first same ends cause = (
    subst (λ (t : Taken). InitOnDisk d t disk limit first n end) same ends,
    subst (λ (t : Taken). HasEndingCause t.tide.faults (d.fault_count disk) 0 0 end) same cause,
  )

  pub serve_leaves : (old : D) (address : List ℕ) (workers connections : ℕ) (seed : List ℕ) (before after : Doors) (talks : List (List Talk)) → taken_now d old ≡ taken
      → ServesDisk d (taken_now d old) disk address workers connections seed before after talks n end → HasEndingCause (d.fault_count old) (d.fault_count disk) 0 0 end
      → CountsOn (tide_at d.fault_count d.time old) talks (tide_at d.fault_count d.time disk)
      → HasEndingCause taken.tide.faults (d.fault_count disk) 0 0 end × CountsOn taken.tide talks (tide_at d.fault_count d.time disk)
      × ServesDisk d taken disk address workers connections seed before after talks n end
  serve_leaves old address workers connections seed before after talks same serves cause counts = (
    subst (λ (t : Taken). HasEndingCause t.tide.faults (d.fault_count disk) 0 0 end) same cause,
    subst (λ (t : Taken). CountsOn t.tide talks (tide_at d.fault_count d.time disk)) same counts,
    subst (λ (t : Taken). ServesDisk d t disk address workers connections seed before after talks n end) same serves,
  )

-- what a shelf tells of the disk that it gave for a file, or of the call that failed
pub record IsTakenFrom {D : Type 0} (d : disks.Ghosts D) (before after : Outside) (file : List ℕ) (taken : Result D Failed) : Type 0 where
  pub told : IfOk taken (λ disk. d.told disk ≡ before.holds file)
  pub begins : IfOk taken (λ disk. d.fault_count disk ≡ before.begins file)
  pub starts : IfOk taken (λ disk. d.time disk ≡ before.starts file)
  pub cause : HasCause before.shelf_faults after.shelf_faults taken

-- the same of the name under which the file was asked for
pub is_taken : {D : Type 0} (d : disks.Ghosts D) (before after : Outside) (taken : Result D Failed) {name file : List ℕ} → name ≡ file
    → IfOk taken (λ disk. d.told disk ≡ before.holds name) → IfOk taken (λ disk. d.fault_count disk ≡ before.begins name)
    → IfOk taken (λ disk. d.time disk ≡ before.starts name) → HasCause before.shelf_faults after.shelf_faults taken
    → IsTakenFrom d before after file taken
is_taken d before after taken same told begins starts cause =
    subst (λ (f : List ℕ). IsTakenFrom d before after f taken) same (record { told = told; begins = begins; starts = starts; cause = cause })

-- no connection was served, and no old store was taken
abbrev pub IsQuiet : {D : Type 0} → doing.Done D → Type 0
IsQuiet done = (done.report.talks ≡ []) × (done.report.responses ≡ 0) × (done.old ≡ None)

-- the clock wasn't read
reads_none : (old new : Option (List ℕ)) → new ≡ old → AddsReadings old new []
reads_none old new same = subst (λ (x : Option (List ℕ)). AddsReadings old x []) (sym same) (still old) where
  still : (x : Option (List ℕ)) → AddsReadings x x []
  still None = tt
  still (Some a) = sym (append-nil a)

-- what a command did with the file's disk, or without it, is what it leaves
module _ {S D B E L I O : Type 0} (d : disks.Ghosts D) (s : shelves.Ghosts S D) (b : lobbies.Ghosts B E L) (i : sources.Ghosts I) (o : sinks.Ghosts O)
    (shelf shelf_now : S) (lobby lobby_now : B) (input input_now : I) (out out_now : O) (file : List ℕ) (done : doing.Done D) where
  abbrev pub before : Outside
  before = outside s b i o shelf lobby input out

  abbrev pub after : Outside
  after = outside s b i o shelf_now lobby_now input_now out_now

  init_left : (taken : Result D Failed) (admin base : List ℕ) (limit clock : ℕ) → IsTakenFrom d before after file taken
      → InitDoes d taken limit (founding_entry admin base clock) done
      → InitLeaves d file admin base limit clock before after done.disk done.report.length done.ending × IsQuiet done
  init_left (Ok old) admin base limit clock from does = (
    subst (λ (o : Option D). InitLeaves d file admin base limit clock before after o done.report.length done.ending) (sym does.1.back)
        (init_leaves d does.0 (taken_from before file) done.report.length done.ending old limit (founding_entry admin base clock)
        (same_taken (d.told old) (d.fault_count old) (d.time old) before.holds before.begins before.starts {name = file} {file = file} refl from.told from.begins from.starts) does.2 does.3),
    (does.1.talks, does.1.responses, does.1.old),
  )
  init_left (Err failed) admin base limit clock from does = (
    subst (λ (o : Option D). InitLeaves d file admin base limit clock before after o done.report.length done.ending) (sym does.disk)
        (does.ended, from.cause.failed refl, does.length),
    (does.talks, does.responses, does.old),
  )

  intake_left : (taken : Result D Failed) (clock : ℕ) (draw : Draw) → IsTakenFrom d before after file taken → IntakeDoes d i taken clock draw input input_now done
      → IntakeLeaves d file clock draw before after done.disk done.report.length done.ending × IsQuiet done
  intake_left (Ok old) clock draw from does = (
    subst (λ (o : Option D). IntakeLeaves d file clock draw before after o done.report.length done.ending) (sym does.1.back)
        (intake_leaves d does.0 (taken_from before file) done.report.length done.ending old before.left clock draw before.input_faults after.input_faults
        (same_taken (d.told old) (d.fault_count old) (d.time old) before.holds before.begins before.starts {name = file} {file = file} refl from.told from.begins from.starts) does.2 does.3),
    (does.1.talks, does.1.responses, does.1.old),
  )
  intake_left (Err failed) clock draw from does = (
    subst (λ (o : Option D). IntakeLeaves d file clock draw before after o done.report.length done.ending) (sym does.0.disk)
        ((does.0.ended, from.cause.failed refl, does.0.length), record { left = does.1; faults = does.2 }),
    (does.0.talks, does.0.responses, does.0.old),
  )

  load_left : (taken : Result D Failed) (seed count : ℕ) (draws : Draws) → IsTakenFrom d before after file taken → LoadDoes d b taken seed count draws lobby lobby_now done
      → (clocks : List ℕ) × AddsReadings before.readings after.readings clocks
      × LoadLeaves d file seed count draws clocks before after done.disk done.report.length done.ending × IsQuiet done
  load_left (Ok old) seed count draws from does = (
    does.2,
    does.3,
    subst (λ (o : Option D). LoadLeaves d file seed count draws does.2 before after o done.report.length done.ending) (sym does.1.back)
        (load_leaves d does.0 (taken_from before file) done.report.length done.ending old seed count draws does.2
        (same_taken (d.told old) (d.fault_count old) (d.time old) before.holds before.begins before.starts {name = file} {file = file} refl from.told from.begins from.starts) does.4 does.5),
    (does.1.talks, does.1.responses, does.1.old),
  )
  load_left (Err failed) seed count draws from does = (
    [],
    reads_none (b.readings lobby) (b.readings lobby_now) does.1,
    subst (λ (o : Option D). LoadLeaves d file seed count draws [] before after o done.report.length done.ending) (sym does.0.disk)
        ((does.0.ended, from.cause.failed refl, does.0.length), refl),
    (does.0.talks, does.0.responses, does.0.old),
  )

  serve_left : (taken : Result D Failed) (address : List ℕ) (workers connections : ℕ) (seed : List ℕ) → IsTakenFrom d before after file taken
      → ServeDoes d b taken address workers connections seed lobby lobby_now done
      → ServeLeaves d file address workers connections seed before after done.disk done.report.talks done.report.length done.ending
      × (done.report.responses ≡ responses_of done.report.talks) × (done.old ≡ None)
  serve_left (Ok old) address workers connections seed from does = (
    subst (λ (o : Option D). ServeLeaves d file address workers connections seed before after o done.report.talks done.report.length done.ending) (sym does.1)
        (serve_leaves d does.0 (taken_from before file) done.report.length done.ending old address workers connections seed before.lobby after.lobby done.report.talks
        (same_taken (d.told old) (d.fault_count old) (d.time old) before.holds before.begins before.starts {name = file} {file = file} refl from.told from.begins from.starts)
        does.6 does.4 does.5),
    does.3,
    does.2,
  )
  serve_left (Err failed) address workers connections seed from does = (
    subst (λ (o : Option D). ServeLeaves d file address workers connections seed before after o done.report.talks done.report.length done.ending) (sym does.0.disk)
        ((does.0.ended, from.cause.failed refl, does.0.length), does.1, does.0.talks),
    does.0.responses ∙ sym (ap responses_of does.0.talks),
    does.0.old,
  )

  -- and a run of it, which ends by its line
  module _ (ended : program.Ended D) (same_disk : ended.disk ≡ done.disk) (same_old : ended.old ≡ done.old) (same_report : ended.report ≡ done.report)
      (takes : TakesFile file before after) (prints : PrintsEnding done.ending before after ended.status) where
    one_step : (clock : ℕ) → ReadsOnce clock before after → SparesDoors before after → IsQuiet done → IsOneStep file before after ended clock done.ending
    one_step clock reads doors quiet = record {
      reads = reads;
      takes = takes;
      doors = doors;
      silent = (ap (λ (r : Report). r.talks) same_report ∙ quiet.0, ap (λ (r : Report). r.responses) same_report ∙ quiet.1);
      old = same_old ∙ quiet.2;
      prints = prints;
    }

    pub init_runs : (taken : Result D Failed) (admin base : List ℕ) (limit clock : ℕ) → ReadsOnce clock before after → SparesDoors before after
        → IsTakenFrom d before after file taken → InitDoes d taken limit (founding_entry admin base clock) done
        → InitRuns d file admin base limit before after ended
    init_runs taken admin base limit clock reads doors from does =
        let left = init_left taken admin base limit clock from does in (
          clock,
          done.ending,
          (
            one_step clock reads doors left.1,
            subst (λ (x : Option D). InitLeaves d file admin base limit clock before after x ended.report.length done.ending) (sym same_disk)
                (subst (λ (r : Report). InitLeaves d file admin base limit clock before after done.disk r.length done.ending) (sym same_report) left.0),
          ),
        )

    pub intake_runs : (taken : Result D Failed) (clock : ℕ) (draw : Draw) → ReadsOnce clock before after → SparesDoors before after
        → IsTakenFrom d before after file taken → IntakeDoes d i taken clock draw input input_now done
        → IntakeRuns d file draw before after ended
    intake_runs taken clock draw reads doors from does =
        let left = intake_left taken clock draw from does in (
          clock,
          done.ending,
          (
            one_step clock reads doors left.1,
            subst (λ (x : Option D). IntakeLeaves d file clock draw before after x ended.report.length done.ending) (sym same_disk)
                (subst (λ (r : Report). IntakeLeaves d file clock draw before after done.disk r.length done.ending) (sym same_report) left.0),
          ),
        )

    pub load_runs : (taken : Result D Failed) (seed count : ℕ) (draws : Draws) → SparesDoors before after
        → IsTakenFrom d before after file taken → LoadDoes d b taken seed count draws lobby lobby_now done
        → LoadRuns d file seed count draws before after ended
    load_runs taken seed count draws doors from does =
        let left = load_left taken seed count draws from does in (
          left.0,
          done.ending,
          (
            left.1,
            takes,
            doors,
            (ap (λ (r : Report). r.talks) same_report ∙ left.3.0, ap (λ (r : Report). r.responses) same_report ∙ left.3.1),
            same_old ∙ left.3.2,
            subst (λ (x : Option D). LoadLeaves d file seed count draws left.0 before after x ended.report.length done.ending) (sym same_disk)
                (subst (λ (r : Report). LoadLeaves d file seed count draws left.0 before after done.disk r.length done.ending) (sym same_report) left.2),
            prints,
          ),
        )

    pub serve_runs : (taken : Result D Failed) (address : List ℕ) (workers connections : ℕ) (seed : List ℕ) → after.readings ≡ before.readings
        → IsTakenFrom d before after file taken → ServeDoes d b taken address workers connections seed lobby lobby_now done
        → ServeRuns d file address workers connections seed before after ended
    serve_runs taken address workers connections seed readings from does =
        let left = serve_left taken address workers connections seed from does in (
          done.ending,
          (
            readings,
            takes,
            subst (λ (r : Report). r.responses ≡ responses_of r.talks) (sym same_report) left.1,
            same_old ∙ left.2,
            subst (λ (x : Option D). ServeLeaves d file address workers connections seed before after x ended.report.talks ended.report.length done.ending) (sym same_disk)
                (subst (λ (r : Report). ServeLeaves d file address workers connections seed before after done.disk r.talks r.length done.ending) (sym same_report) left.0),
            prints,
          ),
        )

-- the command that was found
pub found_one : {X : Type 0} (N : Type 0) (P : X → Type 0) (o : Option X) (x : X) → o ≡ Some x → MatchOption o N P → P x
found_one {X} N P o x is m = subst (λ (v : Option X). MatchOption v N P) is m

-- what the words of init mean is done
pub does_init : {D : Type 0} (d : disks.Ghosts D) (c : CommandLine) (read : ProgramCommand) (file admin base : List ℕ) (limit : ℕ) (seed : List ℕ) (before after : Outside) (o : program.Ended D)
    → read ≡ words.Init file admin base limit → Denotes read c → SparesInput before after → InitRuns d file admin base limit before after o → CommandRuns d c seed before after o
does_init d c read file admin base limit seed before after o is_read means spares run = meant c (subst (λ (r : ProgramCommand). Denotes r c) is_read means) where
  meant : (c : CommandLine) → Denotes (words.Init file admin base limit) c → CommandRuns d c seed before after o
  meant (intake name) means = absurd means
  meant (serve w) means = absurd means
  meant (load w) means = absurd means
  meant (migrate w) means = absurd means
  meant (init w) means =
      let named : InitRuns d w.file admin base limit before after o = subst (λ (f : List ℕ). InitRuns d f admin base limit before after o) means.0 run in
      let known : InitRuns d w.file w.admin base limit before after o = subst (λ (a : List ℕ). InitRuns d w.file a base limit before after o) means.1 named in
      let based : InitRuns d w.file w.admin (base_of w) limit before after o = subst (λ (b : List ℕ). InitRuns d w.file w.admin b limit before after o) means.2 known in
      (spares, subst (λ (n : ℕ). InitRuns d w.file w.admin (base_of w) n before after o) means.3 based)

-- the limit of words of init that are meant, the admin's token and the base are such
pub meant_init : (read : ProgramCommand) (file admin base : List ℕ) (limit : ℕ) → read ≡ words.Init file admin base limit → DenotesInRange read
    → IsLimit limit × IsToken admin × IsBase base
meant_init read file admin base limit is_read meant = ranged meant.0 meant.1 (subst (λ (r : ProgramCommand). Denotes r meant.0) is_read meant.2) where
  -- the limit of words that name none is the last number here
  limit_within : (word : Option (List ℕ)) → IfSome word (IsNumberIn LEAST_BYTES MOST_BYTES) → IsLimit (option_map_or (digits_value 10) word 268435456)
  limit_within None within = (omega arith, omega arith)
  limit_within (Some word) within = (within.least, within.most)

  ranged : (c : CommandLine) → IsInRange c → Denotes (words.Init file admin base limit) c → IsLimit limit × IsToken admin × IsBase base
  ranged (intake name) range means = absurd means
  ranged (serve w) range means = absurd means
  ranged (load w) range means = absurd means
  ranged (migrate w) range means = absurd means
  ranged (init w) range means = (
    subst (λ (n : ℕ). IsLimit n) (sym means.3) (limit_within w.limit range.limit),
    subst (λ (a : List ℕ). IsToken a) (sym means.1) range.admin,
    subst (λ (b : List ℕ). IsBase b) (sym means.2) range.base,
  )

-- the number of workers of a line that is meant is in its range
pub meant_workers : (read : ProgramCommand) (file address : List ℕ) (workers connections : ℕ) → read ≡ words.Serve file address workers connections → DenotesInRange read → (1 ≤ workers) × (workers ≤ MOST_PASSES)
meant_workers read file address workers connections is_read meant = ranged meant.0 meant.1 (subst (λ (r : ProgramCommand). Denotes r meant.0) is_read meant.2) where
  ranged : (c : CommandLine) → IsInRange c → Denotes (words.Serve file address workers connections) c → (1 ≤ workers) × (workers ≤ MOST_PASSES)
  ranged (intake name) range means = absurd means
  ranged (init w) range means = absurd means
  ranged (load w) range means = absurd means
  ranged (migrate w) range means = absurd means
  ranged (serve w) range means = (subst (λ (n : ℕ). 1 ≤ n) (sym means.2) range.workers.least, subst (λ (n : ℕ). n ≤ MOST_PASSES) (sym means.2) range.workers.most)

-- the same of intake
pub does_intake : {D : Type 0} (d : disks.Ghosts D) (c : CommandLine) (read : ProgramCommand) (file : List ℕ) (seed : List ℕ) (before after : Outside) (o : program.Ended D)
    → read ≡ words.Intake file → Denotes read c → IntakeRuns d file (draw_at (start_of seed 0)) before after o → CommandRuns d c seed before after o
does_intake d c read file seed before after o is_read means run = meant c (subst (λ (r : ProgramCommand). Denotes r c) is_read means) where
  meant : (c : CommandLine) → Denotes (words.Intake file) c → CommandRuns d c seed before after o
  meant (init w) means = absurd means
  meant (serve w) means = absurd means
  meant (load w) means = absurd means
  meant (migrate w) means = absurd means
  meant (intake name) means = subst (λ (f : List ℕ). IntakeRuns d f (draw_at (start_of seed 0)) before after o) means run

-- the same of serve
pub does_serve : {D : Type 0} (d : disks.Ghosts D) (c : CommandLine) (read : ProgramCommand) (file address : List ℕ) (workers connections : ℕ) (seed : List ℕ) (before after : Outside) (o : program.Ended D)
    → read ≡ words.Serve file address workers connections → Denotes read c → SparesInput before after → ServeRuns d file address workers connections seed before after o
    → CommandRuns d c seed before after o
does_serve d c read file address workers connections seed before after o is_read means spares run = meant c (subst (λ (r : ProgramCommand). Denotes r c) is_read means) where
  meant : (c : CommandLine) → Denotes (words.Serve file address workers connections) c → CommandRuns d c seed before after o
  meant (intake name) means = absurd means
  meant (init w) means = absurd means
  meant (load w) means = absurd means
  meant (migrate w) means = absurd means
  meant (serve w) means =
      let named : ServeRuns d w.file address workers connections seed before after o = subst (λ (f : List ℕ). ServeRuns d f address workers connections seed before after o) means.0 run in
      let known : ServeRuns d w.file w.address workers connections seed before after o = subst (λ (a : List ℕ). ServeRuns d w.file a workers connections seed before after o) means.1 named in
      let many : ServeRuns d w.file w.address (workers_of w) connections seed before after o = subst (λ (n : ℕ). ServeRuns d w.file w.address n connections seed before after o) means.2 known in
      (spares, subst (λ (n : ℕ). ServeRuns d w.file w.address (workers_of w) n seed before after o) means.3 many)

-- the same of load
pub does_load : {D : Type 0} (d : disks.Ghosts D) (c : CommandLine) (read : ProgramCommand) (file : List ℕ) (number count : ℕ) (seed : List ℕ) (before after : Outside) (o : program.Ended D)
    → read ≡ words.Load file number count → Denotes read c → SparesInput before after → LoadRuns d file number count (start_of seed 0) before after o
    → CommandRuns d c seed before after o
does_load d c read file number count seed before after o is_read means spares run = meant c (subst (λ (r : ProgramCommand). Denotes r c) is_read means) where
  meant : (c : CommandLine) → Denotes (words.Load file number count) c → CommandRuns d c seed before after o
  meant (intake name) means = absurd means
  meant (init w) means = absurd means
  meant (serve w) means = absurd means
  meant (migrate w) means = absurd means
  meant (load w) means =
      let named : LoadRuns d w.file number count (start_of seed 0) before after o = subst (λ (f : List ℕ). LoadRuns d f number count (start_of seed 0) before after o) means.0 run in
      let seeded : LoadRuns d w.file (seed_of w) count (start_of seed 0) before after o = subst (λ (n : ℕ). LoadRuns d w.file n count (start_of seed 0) before after o) means.1 named in
      (spares, subst (λ (n : ℕ). LoadRuns d w.file (seed_of w) n (start_of seed 0) before after o) means.2 seeded)

-- the same of migrate
pub does_migrate : {D : Type 0} (d : disks.Ghosts D) (c : CommandLine) (read : ProgramCommand) (old new : List ℕ) (limit : Option ℕ) (seed : List ℕ) (before after : Outside) (o : program.Ended D)
    → read ≡ words.Migrate old new limit → Denotes read c → SparesInput before after → MigrateRuns d old new limit before after o → CommandRuns d c seed before after o
does_migrate d c read old new limit seed before after o is_read means spares run = meant c (subst (λ (r : ProgramCommand). Denotes r c) is_read means) where
  meant : (c : CommandLine) → Denotes (words.Migrate old new limit) c → CommandRuns d c seed before after o
  meant (intake name) means = absurd means
  meant (init w) means = absurd means
  meant (serve w) means = absurd means
  meant (load w) means = absurd means
  meant (migrate w) means =
      let named : MigrateRuns d w.old new limit before after o = subst (λ (f : List ℕ). MigrateRuns d f new limit before after o) means.0 run in
      let known : MigrateRuns d w.old w.new limit before after o = subst (λ (f : List ℕ). MigrateRuns d w.old f limit before after o) means.1 named in
      (spares, subst (λ (l : Option ℕ). MigrateRuns d w.old w.new l before after o) means.2 known)

-- the two files of words of migrate that are meant have different names, and a limit is one
pub meant_migrate : (read : ProgramCommand) (old new : List ℕ) (limit : Option ℕ) → read ≡ words.Migrate old new limit → DenotesInRange read
    → (old ≡ new → ⊥) × IfSome limit IsLimit
meant_migrate read old new limit is_read meant = ranged meant.0 meant.1 (subst (λ (r : ProgramCommand). Denotes r meant.0) is_read meant.2) where
  within : (word : Option (List ℕ)) → IfSome word (IsNumberIn LEAST_BYTES MOST_BYTES) → IfSome (option_map (digits_value 10) word) IsLimit
  within None is = tt
  within (Some word) is = (is.least, is.most)

  ranged : (c : CommandLine) → IsInRange c → Denotes (words.Migrate old new limit) c → (old ≡ new → ⊥) × IfSome limit IsLimit
  ranged (intake name) range means = absurd means
  ranged (init w) range means = absurd means
  ranged (serve w) range means = absurd means
  ranged (load w) range means = absurd means
  ranged (migrate w) range means = (
    λ same. range.differ (sym means.0 ∙ same ∙ means.1),
    subst (λ (l : Option ℕ). IfSome l IsLimit) (sym means.2) (within w.limit range.limit),
  )
