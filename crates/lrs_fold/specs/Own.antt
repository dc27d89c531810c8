-- What the program writes itself: the entry that founds a store, and a put of its own.
use Rattle.std.specs.Prelude.{◌≡◌, ℕ, List}
use Rattle.lrs_command.specs.declared.command.Command.{Command}
use Rattle.lrs_command.specs.declared.command.Command.TheVariants as command
use Rattle.lrs_reads.specs.LrsHistoryHistory.{Outcome, Said, Accepted, entry_at}
use Rattle.lrs_json.specs.declared.tree.Tree.{Tree}
use Rattle.lrs_time.specs.Moments.{clamped}
use Rattle.lrs_record.specs.declared.entry.Caller.{Caller}
use Rattle.lrs_record.specs.declared.entry.Caller.TheVariants.{Nobody, Operator, Token}
use Rattle.lrs_record.specs.declared.entry.Entry.{Entry}
use Rattle.lrs_record.specs.declared.entry.Write.TheVariants.{Found, Put}
use Rattle.lrs_replies.specs.declared.answered.Answered.{Answered}
use Rattle.lrs_replies.specs.declared.answered.Answered.TheVariants.{Shown, Document, Refused}
use Rattle.lrs_replies.specs.declared.answered.Refusal.{Refusal}
use Rattle.lrs_replies.specs.declared.answered.Refusal.TheVariants.{Unauthorized, Forbidden, NotFound}
use Rattle.lrs_rules.specs.declared.rule.Rule.TheVariants as rules

-- the entry that a store is founded with
abbrev pub founding_entry : List ℕ → List ℕ → ℕ → Entry
founding_entry admin base clock = entry_at Operator (Found admin base) (clamped clock) (record { name = 0; secret = 0 })

-- ---- the put of one statement

abbrev pub put_of : List ℕ → Tree → Command
put_of id statement = command.Write (Put id statement)

-- a put of the program itself
abbrev pub IsPut : Caller → Command → Type 0
IsPut Operator (command.Write (Put id statement)) = Unit {0}
IsPut Operator other = ⊥
IsPut Nobody other = ⊥
IsPut (Token token) other = ⊥

-- Why the program's own put may be refused: not since its caller isn't let in or something is missing. All that is
-- forbidden to it is a statement that cmi5 defines.
abbrev pub MayRefusePut : Refusal → Type 0
MayRefusePut Unauthorized = ⊥
MayRefusePut (Forbidden rule) = rule ≡ rules.C 1
MayRefusePut NotFound = ⊥
MayRefusePut other = Unit {0}

-- what the program's own put may be answered: it shows no text and no document
abbrev pub IsOfPut : Answered → Type 0
IsOfPut (Shown text through) = ⊥
IsOfPut (Document media bytes) = ⊥
IsOfPut (Refused refusal) = MayRefusePut refusal
IsOfPut other = Unit {0}

-- the same of what becomes of a command
abbrev pub SaysOfPut : Outcome → Type 0
SaysOfPut (Said said) = IsOfPut said
SaysOfPut (Accepted e said) = IsOfPut said
