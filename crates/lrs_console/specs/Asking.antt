-- What an input asks of a store, and how that ends.
use Rattle.std.specs.Prelude.{◌≡◌, ◌<◌, ◌≤◌, ℕ, List, length, Option, Some, None, if◌then◌else◌}
use Rattle.lrs_disk.specs.Faults.{Rises}
use Rattle.lrs_json.specs.Json.{Json}
use Rattle.lrs_json.specs.View.{view}
use Rattle.lrs_json_reader.specs.Refusals.{Spells}
use Rattle.lrs_json.specs.declared.tree.Tree.{Tree}
use Rattle.lrs_json.specs.declared.limits.TheConstants.{DEPTH}
use Rattle.lrs_names.specs.declared.draw.Draw.{Draw}
use Rattle.lrs_record.specs.declared.entry.Caller.TheVariants.{Operator}
use Rattle.lrs_record.specs.declared.entry.Write.TheVariants.{Put}
use Rattle.lrs_record.specs.declared.entry.Entry.{Entry}
use Rattle.xapi_rules.specs.Rules.{broken_rule}
use Rattle.xapi_statement.specs.Statement.{own_id, is_too_long}
use Rattle.lrs_history.specs.History.{Answer, answer}
use Rattle.lrs_rules.specs.Rules.{BreaksJson}
use Rattle.lrs_command.specs.declared.command.Command.TheVariants.{Write}
use Rattle.lrs_rules.specs.declared.rule.Rule.{Rule}
use Rattle.lrs_rules.specs.declared.rule.Rule.TheVariants as rule
use Rattle.lrs_replies.specs.declared.answered.Answered.{Answered}
use Rattle.lrs_replies.specs.declared.answered.Answered.TheVariants as said
use Rattle.lrs_replies.specs.declared.answered.Refusal.{Refusal}
use Rattle.lrs_replies.specs.declared.answered.Refusal.TheVariants as refusal
use Rattle.lrs_console.specs.Reading.{longest_input}
use Rattle.lrs_console.specs.declared.ending.Ending.{Ending}
use Rattle.lrs_console.specs.declared.ending.Ending.TheVariants as ending

-- what an input is taken for
pub data InputKind : Type 0 where
  too_long : InputKind
  -- no JSON value as it may be, by this rule
  no_value : Rule → InputKind
  -- a value that gives itself no id
  without_id : Tree → InputKind
  -- a statement to be put under the id that it gives itself
  with_id : List ℕ → Tree → InputKind

-- a value that gives itself this id, or none
abbrev pub Names : Tree → Option (List ℕ) → Type 0
Names t id = own_id (view t) ≡ id

-- The input is taken for this. Of what spells a value, the tree is the one that is read.
abbrev pub IsTakenFor : List ℕ → InputKind → Type 0
IsTakenFor input too_long = longest_input < length input
IsTakenFor input (no_value r) = (length input ≤ longest_input) × BreaksJson input r
IsTakenFor input (without_id t) = (length input ≤ longest_input) × Spells DEPTH input (view t) × Names t None
IsTakenFor input (with_id id t) = (length input ≤ longest_input) × Spells DEPTH input (view t) × Names t (Some id)

-- ---- how it ends

abbrev pub without_rule : Option ℕ → Ending
without_rule None = ending.NoId
without_rule (Some n) = ending.Refused (rule.S n)

-- a value without an id: its length, then the rules on statements (S), then that it has no id
abbrev pub ending_without_id : Json → Ending
ending_without_id j = if is_too_long j then ending.TooLong else without_rule (broken_rule j)

-- A statement that is refused ends so. The operator is let in, and a statement misses nothing. All that is forbidden to
-- it is a statement that cmi5 defines.
abbrev pub EndsRefused : Refusal → Ending → Type 0
EndsRefused (refusal.Conflict held) end = end ≡ ending.Conflict held
EndsRefused (refusal.Full need limit) end = end ≡ ending.Full need limit
EndsRefused (refusal.Broken r) end = end ≡ ending.Refused r
EndsRefused refusal.TooLong end = end ≡ ending.TooLong
EndsRefused refusal.Unauthorized end = ⊥
EndsRefused (refusal.Forbidden r) end = (r ≡ rule.C 1) × (end ≡ ending.Refused r)
EndsRefused refusal.NotFound end = ⊥

-- What the store says to a statement of this id ends so. It shows no text.
abbrev pub EndsSaying : List ℕ → Answered → Ending → Type 0
EndsSaying id said.Kept end = end ≡ ending.Kept id
EndsSaying id said.Same end = end ≡ ending.Kept id
EndsSaying id (said.Shown text through) end = ⊥
EndsSaying id (said.Document media bytes) end = ⊥
EndsSaying id (said.Refused r) end = EndsRefused r end

-- the abstract store's answer to the operator's put
abbrev pub put_answer : ℕ → List Entry → ℕ → Draw → List ℕ → Tree → Answer
put_answer limit h clock draw id t = answer limit h Operator (Write (Put id t)) clock draw

-- what is asked of a store of this limit and history ends so
abbrev pub EndsAsking : ℕ → List Entry → ℕ → Draw → InputKind → Ending → Type 0
EndsAsking limit h clock draw too_long end = end ≡ ending.TooLong
EndsAsking limit h clock draw (no_value r) end = end ≡ ending.Refused r
EndsAsking limit h clock draw (without_id t) end = end ≡ ending_without_id (view t)
EndsAsking limit h clock draw (with_id id t) end = EndsSaying id (put_answer limit h clock draw id t).said end

-- the entry that what is asked makes, if any
abbrev pub entry_of_input : ℕ → List Entry → ℕ → Draw → InputKind → Option Entry
entry_of_input limit h clock draw too_long = None
entry_of_input limit h clock draw (no_value r) = None
entry_of_input limit h clock draw (without_id t) = None
entry_of_input limit h clock draw (with_id id t) = (put_answer limit h clock draw id t).entry

-- why no value is read
abbrev pub IsNoTree : List ℕ → Ending → Type 0
IsNoTree input ending.Memory = Unit {0}
IsNoTree input (ending.Refused r) = BreaksJson input r
IsNoTree input other = ⊥

-- what is asked is no statement to be kept, and ends so over each history
abbrev pub EndsAnyway : List ℕ → Ending → Type 0
EndsAnyway input end = (kind : InputKind) × IsTakenFor input kind
    × ((limit : ℕ) (h : List Entry) (clock : ℕ) (draw : Draw) → EndsAsking limit h clock draw kind end
    × (entry_of_input limit h clock draw kind ≡ None))

-- why no statement is taken from an input
abbrev pub IsNotTaken : List ℕ → Ending → Type 0
IsNotTaken input ending.Memory = Unit {0}
IsNotTaken input ending.InputFault = Unit {0}
IsNotTaken input other = EndsAnyway input other

-- the same of an input that was read
abbrev pub IsNoStatement : List ℕ → Ending → Type 0
IsNoStatement input ending.Memory = Unit {0}
IsNoStatement input ending.InputFault = ⊥
IsNoStatement input ending.DiskFault = ⊥
IsNoStatement input other = EndsAnyway input other

-- a fault of the input has its cause
abbrev pub HasInputCause : ℕ → ℕ → Ending → Type 0
HasInputCause before now ending.InputFault = Rises before now
HasInputCause before now ending.DiskFault = ⊥
HasInputCause before now other = Unit {0}
