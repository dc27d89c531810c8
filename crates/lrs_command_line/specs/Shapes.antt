-- The program's words as the code has them, and how it takes a line apart.
use Rattle.std.specs.Prelude.{◌≡◌, ◌&&◌, not, ℕ, Bool, true, false, List, [], ◌∷◌, Option, Some, None, if◌then◌else◌}
use Rattle.std.specs.Prelude.{codes, slice_get, option_and_then, MatchOption}
use Rattle.std.specs.Option.{option_copied}
use Rattle.std.specs.Str.{bytes_eq}
use Rattle.clap.specs.Walk.{Row, Text, first_of}
use Rattle.clap.specs.Simple.{App, app_of, subcommand_of}
use Rattle.clap.specs.declared.builder.command.Command.{Command as ClapCommand}
use Rattle.clap.specs.declared.builder.command.Command.TheViews.{out-Command as fields_of}
use Rattle.clap.specs.Faults.{fault_of}
use Rattle.lrs_json.specs.Names.{is_among}
use Rattle.lrs_command_line.specs.CommandLine.{CommandLine, init, intake, serve, load, migrate, IsInRange, base_of}
use Rattle.lrs_command_line.specs.CommandLine.{chosen_limit_of, connections_of, count_of, is_no_option, limit_of}
use Rattle.lrs_command_line.specs.CommandLine.{options_of, program, seed_of, whole_line, workers_of}
use Rattle.lrs_command_line.specs.declared.words.CommandLine as code
use Rattle.lrs_command_line.specs.declared.words.CommandLine.TheVariants as line
use Rattle.lrs_command_line.specs.declared.words.ProgramCommand.{ProgramCommand}
use Rattle.lrs_command_line.specs.declared.words.ProgramCommand.TheVariants as words

abbrev pub command_of : code.CommandLine → CommandLine
command_of (line.Init file admin base limit) =
    init (record { file = file.now; admin = admin.now; base = option_copied base; limit = option_copied limit })
command_of (line.Intake file) = intake file.now
command_of (line.Serve file address workers connections) =
    serve (record { file = file.now; address = address.now; workers = workers.now; connections = connections.now })
command_of (line.Load file seed count) = load (record { file = file.now; seed = seed.now; count = count.now })
command_of (line.Migrate old new limit) =
    migrate (record { old = old.now; new = new.now; limit = option_copied limit })

-- the words as they were read mean this command
abbrev pub Denotes : ProgramCommand → CommandLine → Type 0
Denotes (words.Init file admin base limit) (init w) = (file ≡ w.file) × (admin ≡ w.admin) × (base ≡ base_of w)
    × (limit ≡ limit_of w)
Denotes (words.Intake file) (intake name) = file ≡ name
Denotes (words.Serve file address workers connections) (serve w) = (file ≡ w.file) × (address ≡ w.address)
    × (workers ≡ workers_of w) × (connections ≡ connections_of w)
Denotes (words.Load file seed count) (load w) = (file ≡ w.file) × (seed ≡ seed_of w) × (count ≡ count_of w)
Denotes (words.Migrate old new limit) (migrate w) = (old ≡ w.old) × (new ≡ w.new) × (limit ≡ chosen_limit_of w)
Denotes other command = ⊥

-- the words were read as this command, or refused for a value out of its range, if they name it
abbrev pub IsReadAs : Option CommandLine → Option ProgramCommand → Type 0
IsReadAs None found = found ≡ None
IsReadAs (Some c) found = MatchOption found (IsInRange c → ⊥) (λ words. IsInRange c × Denotes words c)

-- ---- plain lines

-- the word is an option, and stands once
abbrev pub is_option : List (List ℕ) → List ℕ → List (List ℕ) → Bool
is_option options word behind = is_among word options && not (is_among word behind)

-- the words are plain from the beginning of a part on, or from the word after an option's name
abbrev pub is_plain : List (List ℕ) → Bool → List (List ℕ) → Bool
is_plain options behind_option [] = not behind_option
is_plain options true (value ∷ words) = is_no_option value && is_plain options false words
is_plain options false (word ∷ words) =
    if is_no_option word then is_plain options false words
    else (is_option options word words && is_plain options true words)

-- the words that stand alone
abbrev pub alone : Bool → List (List ℕ) → List (List ℕ)
alone behind_option [] = []
alone true (value ∷ words) = alone false words
alone false (word ∷ words) = if is_no_option word then word ∷ alone false words else alone true words

-- the word after this one
abbrev pub value_behind : List ℕ → List (List ℕ) → Option (List ℕ)
value_behind name [] = None
value_behind name (word ∷ words) = if bytes_eq word name then slice_get words 0 else value_behind name words

-- ---- commands of what was found

abbrev pub init_with : Option (List ℕ) → Option (List ℕ) → Option (List ℕ) → Option (List ℕ) → Option CommandLine
init_with (Some file) (Some admin) base limit =
    Some (init (record { file = file; admin = admin; base = base; limit = limit }))
init_with file admin base limit = None

abbrev pub intake_with : Option (List ℕ) → Option CommandLine
intake_with (Some file) = Some (intake file)
intake_with None = None

abbrev pub serve_with : Option (List ℕ) → Option (List ℕ) → Option (List ℕ) → Option (List ℕ) → Option CommandLine
serve_with (Some file) (Some address) (Some workers) (Some connections) =
    Some (serve (record { file = file; address = address; workers = workers; connections = connections }))
serve_with file address workers connections = None

abbrev pub load_with : Option (List ℕ) → Option (List ℕ) → Option (List ℕ) → Option CommandLine
load_with (Some file) (Some seed) (Some count) = Some (load (record { file = file; seed = seed; count = count }))
load_with file seed count = None

abbrev pub migrate_with : Option (List ℕ) → Option (List ℕ) → Option (List ℕ) → Option CommandLine
migrate_with (Some old) (Some new) limit = Some (migrate (record { old = old; new = new; limit = limit }))
migrate_with old new limit = None

-- three words after this name
abbrev pub load_said : List ℕ → List ℕ → List ℕ → List ℕ → Option CommandLine
load_said name file seed count = if bytes_eq name (codes "load")
    then Some (load (record { file = file; seed = seed; count = count })) else None

abbrev pub said_by : List (List ℕ) → (List ℕ → Option (List ℕ)) → Option CommandLine
said_by (name ∷ file ∷ []) value =
    if bytes_eq name (codes "init")
    then init_with (Some file) (value (codes "--admin")) (value (codes "--base")) (value (codes "--limit"))
    else (if bytes_eq name (codes "intake") then Some (intake file) else None)
said_by (name ∷ file ∷ second ∷ []) value =
    if bytes_eq name (codes "serve")
    then serve_with (Some file) (Some second) (value (codes "--workers")) (value (codes "--connections"))
    else (if bytes_eq name (codes "migrate") then migrate_with (Some file) (Some second) (value (codes "--limit"))
    else None)
said_by (name ∷ file ∷ seed ∷ count ∷ []) value = load_said name file seed count
said_by words value = None

-- ---- what clap takes

-- clap's command is this one, and none of its arguments is global
abbrev pub IsOf : App → ClapCommand → Type 0
IsOf a c = (app_of c ≡ a) × ((fields_of c).has_globals ≡ false)

abbrev pub init_in : List Row → Option CommandLine
init_in rows = init_with (first_of (codes "file") rows) (first_of (codes "admin") rows) (first_of (codes "base") rows)
    (first_of (codes "limit") rows)

abbrev pub intake_in : List Row → Option CommandLine
intake_in rows = intake_with (first_of (codes "file") rows)

abbrev pub serve_in : List Row → Option CommandLine
serve_in rows = serve_with (first_of (codes "file") rows) (first_of (codes "address") rows)
    (first_of (codes "workers") rows) (first_of (codes "connections") rows)

abbrev pub load_in : List Row → Option CommandLine
load_in rows = load_with (first_of (codes "file") rows) (first_of (codes "seed") rows) (first_of (codes "count") rows)

abbrev pub migrate_in : List Row → Option CommandLine
migrate_in rows =
    migrate_with (first_of (codes "old") rows) (first_of (codes "new") rows) (first_of (codes "limit") rows)

abbrev pub command_in : Text × List Row → Option CommandLine
command_in found =
    if bytes_eq found.0 (codes "init") then init_in found.1
    else (if bytes_eq found.0 (codes "intake") then intake_in found.1
    else (if bytes_eq found.0 (codes "serve") then serve_in found.1
    else (if bytes_eq found.0 (codes "load") then load_in found.1
    else (if bytes_eq found.0 (codes "migrate") then migrate_in found.1 else None))))

abbrev pub is_nonempty : {X : Type 0} → List X → Bool
is_nonempty [] = false
is_nonempty (x ∷ xs) = true

abbrev pub is_faulty : List Text → Bool
is_faulty line = is_nonempty (fault_of program line)

abbrev pub taken : List (List ℕ) → Option CommandLine
taken words =
    if is_faulty (whole_line words) then None else option_and_then command_in (subcommand_of program (whole_line words))

-- the command that the words name
abbrev pub named : List (List ℕ) → Option CommandLine
named words = if is_plain (options_of words) false words
    then said_by (alone false words) (λ name. value_behind name words) else taken words
