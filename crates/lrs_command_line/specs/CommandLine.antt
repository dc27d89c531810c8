-- The words of the command line: `init FILE --admin TOKEN [--base URL] [--limit BYTES]`, `intake FILE`,
-- `serve FILE ADDRESS --workers W --connections N`, `load FILE SEED N` and `migrate OLD NEW [--limit BYTES]`, each
-- option with its value anywhere after the command's name.
use Rattle.std.specs.Prelude.{◌≡◌, ◌<◌, ◌≤◌, ◌⊎◌, ◌==◌, ◌-◌, ◌^◌, ⊤, not, ℕ, Bool, true, false, List, [], ◌∷◌, length}
use Rattle.std.specs.Prelude.{Option, Some, None, IfSome, if◌then◌else◌, option_map, unwrap_or, codes}
use Rattle.std.specs.Option.{option_map_or}
use Rattle.std.specs.Char.{is_ascii_digit}
use Rattle.std.specs.List.{list_all}
use Rattle.std.specs.Str.{bytes_eq}
use Rattle.std.specs.Str.Parse.{digits_value}
use Rattle.clap.specs.Walk.{Row, Rule, Text, first_of}
use Rattle.clap.specs.Simple.{App, new_app, new_rule, with_rule, with_subcommand, subcommand_of}
use Rattle.clap.specs.Faults.{fault_of}
use Rattle.lrs_json.specs.Names.{is_among}
use Rattle.lrs_state.specs.Founding.{IsToken, IsBase}
use Rattle.lrs_journal.specs.declared.sizes.TheConstants.{LEAST_BYTES, MOST_BYTES}
use Rattle.lrs_turn.specs.declared.turns.TheConstants.{MOST_PASSES}
use Rattle.lrs_command_line.specs.declared.words.TheConstants.{DEFAULT_BASE, DEFAULT_LIMIT, MOST_CONNECTIONS}
use Rattle.lrs_command_line.specs.declared.words.TheConstants.{MOST_DIGITS, MOST_STATEMENTS}

-- ---- plain lines

-- a part of a line: a word that stands alone, or an option's name with the value after it
pub data Part : Type 0 where
  word : List ℕ → Part
  option : List ℕ → List ℕ → Part

-- the words of a line of these parts
abbrev pub line_of : List Part → List (List ℕ)
line_of [] = []
line_of (word w ∷ parts) = w ∷ line_of parts
line_of (option name value ∷ parts) = name ∷ value ∷ line_of parts

-- the words that stand alone, in their order
abbrev pub words_of : List Part → List (List ℕ)
words_of [] = []
words_of (word w ∷ parts) = w ∷ words_of parts
words_of (option name value ∷ parts) = words_of parts

-- the value of an option
abbrev pub value_of : List ℕ → List Part → Option (List ℕ)
value_of name [] = None
value_of name (word w ∷ parts) = value_of name parts
value_of name (option other value ∷ parts) = if bytes_eq other name then Some value else value_of name parts

-- the word isn't empty, and doesn't begin with `-` as the name of an option does
abbrev pub is_no_option : List ℕ → Bool
is_no_option [] = false
is_no_option (b ∷ rest) = not (b == 45)

-- No word is empty and none begins with `-` but these options. Each of those stands at most once, and the next word is
-- its value.
abbrev pub ArePlain : List (List ℕ) → List Part → Type 0
ArePlain options [] = ⊤
ArePlain options (word w ∷ parts) = (is_no_option w ≡ true) × ArePlain options parts
ArePlain options (option name value ∷ parts) =
    (is_among name options ≡ true) × (is_among name (line_of parts) ≡ false) × (is_no_option value ≡ true)
    × ArePlain options parts

abbrev pub options_of_command : List ℕ → List (List ℕ)
options_of_command name =
    if bytes_eq name (codes "init") then codes "--admin" ∷ codes "--base" ∷ codes "--limit" ∷ []
    else (if bytes_eq name (codes "serve") then codes "--workers" ∷ codes "--connections" ∷ []
    else (if bytes_eq name (codes "migrate") then codes "--limit" ∷ [] else []))

-- the options of the command that the first word names
abbrev pub options_of : List (List ℕ) → List (List ℕ)
options_of [] = []
options_of (name ∷ words) = options_of_command name

-- the words are a plain line of these parts
pub record IsLineOf (parts : List Part) (words : List (List ℕ)) : Type 0 where
  pub line : words ≡ line_of parts
  pub plain : ArePlain (options_of words) parts

abbrev pub IsPlain : List (List ℕ) → Type 0
IsPlain words = (parts : List Part) × IsLineOf parts words

-- ---- what a command's words are

-- what the words of `init` name
pub record InitWords : Type 0 where
  pub file : List ℕ
  pub admin : List ℕ
  pub base : Option (List ℕ)
  pub limit : Option (List ℕ)

-- what the words of `serve` name
pub record ServeWords : Type 0 where
  pub file : List ℕ
  pub address : List ℕ
  pub workers : List ℕ
  pub connections : List ℕ

-- what the words of `load` name
pub record LoadWords : Type 0 where
  pub file : List ℕ
  pub seed : List ℕ
  pub count : List ℕ

-- what the words of `migrate` name
pub record MigrateWords : Type 0 where
  pub old : List ℕ
  pub new : List ℕ
  pub limit : Option (List ℕ)

-- a command, as its words name it
pub data CommandLine : Type 0 where
  init : InitWords → CommandLine
  intake : List ℕ → CommandLine
  serve : ServeWords → CommandLine
  load : LoadWords → CommandLine
  migrate : MigrateWords → CommandLine

-- The parts of a plain line are this command's: its words and the options that it requires all stand there, and no word
-- too many.
abbrev pub ArePartsOf : List Part → CommandLine → Type 0
ArePartsOf parts (init w) =
    (words_of parts ≡ codes "init" ∷ w.file ∷ []) × (value_of (codes "--admin") parts ≡ Some w.admin)
    × (value_of (codes "--base") parts ≡ w.base) × (value_of (codes "--limit") parts ≡ w.limit)
ArePartsOf parts (intake file) = words_of parts ≡ codes "intake" ∷ file ∷ []
ArePartsOf parts (serve w) = (words_of parts ≡ codes "serve" ∷ w.file ∷ w.address ∷ [])
    × (value_of (codes "--workers") parts ≡ Some w.workers)
    × (value_of (codes "--connections") parts ≡ Some w.connections)
ArePartsOf parts (load w) = words_of parts ≡ codes "load" ∷ w.file ∷ w.seed ∷ w.count ∷ []
ArePartsOf parts (migrate w) = (words_of parts ≡ codes "migrate" ∷ w.old ∷ w.new ∷ [])
    × (value_of (codes "--limit") parts ≡ w.limit)

-- ---- other lines, as clap takes them

abbrev pub required : Text → Rule
required name = record (new_rule name) { required = true }

abbrev pub optional : Text → Rule
optional name = record (new_rule name) { long = Some name }

abbrev pub needed : Text → Rule
needed name = record (required name) { long = Some name }

abbrev pub init_app : App
init_app = with_rule
    (with_rule (with_rule (with_rule (new_app (codes "init")) (required (codes "file"))) (needed (codes "admin")))
    (optional (codes "base"))) (optional (codes "limit"))

abbrev pub intake_app : App
intake_app = with_rule (new_app (codes "intake")) (required (codes "file"))

abbrev pub serve_app : App
serve_app = with_rule
    (with_rule (with_rule (with_rule (new_app (codes "serve")) (required (codes "file"))) (required (codes "address")))
    (needed (codes "workers"))) (needed (codes "connections"))

abbrev pub load_app : App
load_app = with_rule
    (with_rule (with_rule (new_app (codes "load")) (required (codes "file"))) (required (codes "seed")))
    (required (codes "count"))

abbrev pub migrate_app : App
migrate_app = with_rule
    (with_rule (with_rule (new_app (codes "migrate")) (required (codes "old"))) (required (codes "new")))
    (optional (codes "limit"))

-- the program with the first two of its commands
abbrev pub program_begun : App
program_begun = with_subcommand (with_subcommand (new_app (codes "kilnlime")) init_app.top) intake_app.top

abbrev pub program : App
program = with_subcommand (with_subcommand (with_subcommand program_begun serve_app.top) load_app.top) migrate_app.top

-- the words with the program's name before them
abbrev pub whole_line : List Text → List Text
whole_line words = codes "kilnlime" ∷ words

-- what was given to a subcommand is this command's
abbrev pub Gives : Option (Text × List Row) → CommandLine → Type 0
Gives None c = ⊥
Gives (Some found) (init w) = (found.0 ≡ codes "init") × (first_of (codes "file") found.1 ≡ Some w.file)
    × (first_of (codes "admin") found.1 ≡ Some w.admin)
    × (first_of (codes "base") found.1 ≡ w.base) × (first_of (codes "limit") found.1 ≡ w.limit)
Gives (Some found) (intake file) = (found.0 ≡ codes "intake") × (first_of (codes "file") found.1 ≡ Some file)
Gives (Some found) (serve w) = (found.0 ≡ codes "serve") × (first_of (codes "file") found.1 ≡ Some w.file)
    × (first_of (codes "address") found.1 ≡ Some w.address)
    × (first_of (codes "workers") found.1 ≡ Some w.workers)
    × (first_of (codes "connections") found.1 ≡ Some w.connections)
Gives (Some found) (load w) = (found.0 ≡ codes "load") × (first_of (codes "file") found.1 ≡ Some w.file)
    × (first_of (codes "seed") found.1 ≡ Some w.seed)
    × (first_of (codes "count") found.1 ≡ Some w.count)
Gives (Some found) (migrate w) = (found.0 ≡ codes "migrate") × (first_of (codes "old") found.1 ≡ Some w.old)
    × (first_of (codes "new") found.1 ≡ Some w.new) × (first_of (codes "limit") found.1 ≡ w.limit)

-- clap refuses the words for no cause, and gives the command
pub record IsTaken (words : List (List ℕ)) (c : CommandLine) : Type 0 where
  pub whole : fault_of program (whole_line words) ≡ []
  pub gives : Gives (subcommand_of program (whole_line words)) c

-- ---- values

-- a number as words spell it: 1 to `MOST_DIGITS` digits and nothing else
pub record IsNumberWord (word : List ℕ) : Type 0 where
  pub some : 0 < length word
  pub few : length word ≤ MOST_DIGITS
  pub digits : list_all is_ascii_digit word ≡ true

-- a number of this range
pub record IsNumberIn (from to : ℕ) (word : List ℕ) : Type 0 where
  pub number : IsNumberWord word
  pub least : from ≤ digits_value 10 word
  pub most : digits_value 10 word ≤ to

-- a number of bytes that a store may have
abbrev pub IsLimitWord : List ℕ → Type 0
IsLimitWord = IsNumberIn LEAST_BYTES MOST_BYTES

-- the base address of the store, and its limit, if the words leave them out
abbrev pub base_of : InitWords → List ℕ
base_of w = unwrap_or w.base DEFAULT_BASE.now

abbrev pub limit_of : InitWords → ℕ
limit_of w = option_map_or (digits_value 10) w.limit DEFAULT_LIMIT

pub record IsInitInRange (w : InitWords) : Type 0 where
  pub admin : IsToken w.admin
  pub base : IsBase (base_of w)
  pub limit : IfSome w.limit IsLimitWord

pub record IsServeInRange (w : ServeWords) : Type 0 where
  pub workers : IsNumberIn 1 MOST_PASSES w.workers
  pub connections : IsNumberIn 1 MOST_CONNECTIONS w.connections

abbrev pub workers_of : ServeWords → ℕ
workers_of w = digits_value 10 w.workers

-- of each worker
abbrev pub connections_of : ServeWords → ℕ
connections_of w = digits_value 10 w.connections

-- the seed is a number of 64 bits
pub record IsLoadInRange (w : LoadWords) : Type 0 where
  pub seed : IsNumberIn 0 (2 ^ 64 - 1) w.seed
  pub count : IsNumberIn 1 MOST_STATEMENTS w.count

abbrev pub seed_of : LoadWords → ℕ
seed_of w = digits_value 10 w.seed

abbrev pub count_of : LoadWords → ℕ
count_of w = digits_value 10 w.count

-- the two files have different names, if not always different places
pub record IsMigrateInRange (w : MigrateWords) : Type 0 where
  pub differ : w.old ≡ w.new → ⊥
  pub limit : IfSome w.limit IsLimitWord

-- the limit of the new store, if the words say one
abbrev pub chosen_limit_of : MigrateWords → Option ℕ
chosen_limit_of w = option_map (digits_value 10) w.limit

abbrev pub IsInRange : CommandLine → Type 0
IsInRange (init w) = IsInitInRange w
IsInRange (intake file) = ⊤
IsInRange (serve w) = IsServeInRange w
IsInRange (load w) = IsLoadInRange w
IsInRange (migrate w) = IsMigrateInRange w

-- a plain line is a command's by its parts, and any other line as clap takes it
abbrev pub IsNamed : List (List ℕ) → CommandLine → Type 0
IsNamed words c = ((parts : List Part) × IsLineOf parts words × ArePartsOf parts c)
    ⊎ ((IsPlain words → ⊥) × IsTaken words c)

-- the words are this command's, and each value is in its range
abbrev pub IsCommandLine : List (List ℕ) → CommandLine → Type 0
IsCommandLine words c = IsNamed words c × IsInRange c
