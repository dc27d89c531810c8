-- The store as a plain list of entries: what it holds, what it answers, and which lists can have come about.
use Rattle.std.specs.Prelude.{◌≡◌, ◌<◌, ◌≤◌, ◌==◌, ◌&&◌, ℕ, max, Bool, true, false, IsTrue, List, [], ◌∷◌, ◌++◌, length}
use Rattle.std.specs.Prelude.{map, Option, Some, None, is_none, option_map, if◌then◌else◌, nat_le, nat_lt}
use Rattle.std.specs.Option.{option_or}
use Rattle.lrs_command.specs.declared.command.Command.{Command}
use Rattle.lrs_command.specs.declared.command.Command.TheVariants as command
use Rattle.lrs_command.specs.declared.command.Read.{Read}
use Rattle.lrs_command.specs.declared.who.Who.{Who}
use Rattle.lrs_history.specs.Answers.{read_said, write_said}
use Rattle.lrs_history.specs.Effects.{effect}
use Rattle.lrs_history.specs.Refusals.{barred, read_refusal, refusal, refused_inside, refused_with}
use Rattle.lrs_history.specs.Whose.{who_is}
use Rattle.lrs_journal.specs.Store.{need_at, need_told, store}
use Rattle.lrs_names.specs.declared.draw.Draw.{Draw}
use Rattle.lrs_state.specs.Founding.{is_base, is_token}
use Rattle.lrs_state.specs.State.{State, apply, changes_nothing, nothing}
use Rattle.lrs_record.specs.Entries.{IsLawful, written_entry}
use Rattle.lrs_time.specs.Moments.{clamped}
use Rattle.lrs_record.specs.declared.entry.Caller.{Caller}
use Rattle.lrs_record.specs.declared.entry.Caller.TheVariants.{Operator}
use Rattle.lrs_record.specs.declared.entry.Entry.{Entry}
use Rattle.lrs_record.specs.declared.entry.Write.{Write}
use Rattle.lrs_record.specs.declared.entry.Write.TheVariants.{Found}
use Rattle.lrs_replies.specs.declared.answered.Answered.{Answered}
use Rattle.lrs_replies.specs.declared.answered.Answered.TheVariants as answered
use Rattle.lrs_replies.specs.declared.answered.Refusal.{Refusal}
use Rattle.lrs_replies.specs.declared.answered.Refusal.TheVariants.{Full}
use Rattle.lrs_ids.specs.Choices.{when}

-- ---- what the entries give

abbrev pub step : State → Entry → State
step st e = apply st (effect st e)

abbrev pub state_from : State → List Entry → State
state_from st [] = st
state_from st (e ∷ entries) = state_from (step st e) entries

abbrev pub state : List Entry → State
state entries = state_from nothing entries

-- ---- the answer

-- what the store says, and at most one entry
pub record Answer : Type 0 where
  pub said : Answered
  pub entry : Option Entry

abbrev pub only : Answered → Answer
only said = record { said = said; entry = None }

abbrev pub refused : Refusal → Answered
refused refusal = answered.Refused refusal

abbrev pub refused_or : Option Refusal → Answered → Answered
refused_or None said = said
refused_or (Some refusal) said = refused refusal

-- where the end gate stands after a history's frames
abbrev pub end_offset : ℕ → List Entry → ℕ
end_offset limit entries = length (store limit (map written_entry entries))

-- the bytes that a file whose end gate stands there has with one entry more
abbrev pub need : ℕ → Entry → ℕ
need offset e = need_at offset (written_entry e)

-- if there is room for its entry, a write is accepted
abbrev pub if_room : ℕ → ℕ → Answered → Entry → Answer
if_room limit offset said e =
    if nat_lt limit (need offset e) then only (refused (Full (need_told offset (written_entry e)) limit))
    else record { said = said; entry = Some e }

-- What is said to a write whatever room there is, or None if it is to have its entry: why it is refused, or what is
-- said if nothing changes.
abbrev pub said_at_once : State → Entry → Option Answered
said_at_once st e =
    option_or (option_map refused (refusal st e)) (when (changes_nothing (effect st e)) (write_said (effect st e)))

abbrev pub entry_at : Caller → Write → ℕ → Draw → Entry
entry_at caller write moment draw = record { caller = caller; write = write; moment = moment; draw = draw }

-- The entry that a write would have. Its moment isn't before the last one's.
abbrev pub next_entry : State → Caller → Write → ℕ → Draw → Entry
next_entry st caller write clock draw = entry_at caller write (max (clamped clock) st.last) draw

-- What becomes of a command: something is said to it at once, or it has an entry and this is said if there is room for
-- it.
pub data Outcome : Type 0 where
  Said : Answered → Outcome
  Accepted : Entry → Answered → Outcome

abbrev pub outcome_by : Option Answered → Entry → Answered → Outcome
outcome_by (Some said) e then_said = Said said
outcome_by None e then_said = Accepted e then_said

-- what becomes of a write, by the entry that it would have
abbrev pub write_outcome : State → Entry → Outcome
write_outcome st e = outcome_by (said_at_once st e) e (write_said (effect st e))

-- what a caller is told who asks
abbrev pub read_answered : State → Who → Read → Answered
read_answered st by read = refused_or (read_refusal st by read) (read_said st by read)

-- the same of a caller who is let in
abbrev pub answered_inside : State → Who → Read → Answered
answered_inside st by read = refused_or (refused_inside st by read) (read_said st by read)

-- a form that is refused is told so once its caller is let in
abbrev pub outcome : State → Caller → Command → ℕ → Draw → Outcome
outcome st caller (command.Write write) clock draw = write_outcome st (next_entry st caller write clock draw)
outcome st caller (command.Read read) clock draw = Said (read_answered st (who_is st caller) read)
outcome st caller (command.Refused area status rule) clock draw =
    Said (refused_or (barred area (who_is st caller)) (refused (refused_with status rule)))

abbrev pub answer_of : ℕ → ℕ → Outcome → Answer
answer_of limit offset (Said said) = only said
answer_of limit offset (Accepted e said) = if_room limit offset said e

-- the answer over a store of this limit whose end gate stands there
abbrev pub answer_in : ℕ → ℕ → State → Caller → Command → ℕ → Draw → Answer
answer_in limit offset st caller command clock draw = answer_of limit offset (outcome st caller command clock draw)

-- The abstract store: what it answers a command over a history.
abbrev pub answer : ℕ → List Entry → Caller → Command → ℕ → Draw → Answer
answer limit entries caller command clock draw =
    answer_in limit (end_offset limit entries) (state entries) caller command clock draw

-- the history after an answer
abbrev pub with_entry : List Entry → Option Entry → List Entry
with_entry entries None = entries
with_entry entries (Some e) = entries ++ e ∷ []

-- ---- legal histories

abbrev pub is_operator : Caller → Bool
is_operator Operator = true
is_operator other = false

abbrev pub is_zero : Draw → Bool
is_zero draw = (draw.name == 0) && (draw.secret == 0)

abbrev pub founds : Write → Bool
founds (Found admin base) = is_token admin && is_base base
founds other = false

-- the operator's founding entry, with draw 0
abbrev pub is_founding : Entry → Bool
is_founding e = is_operator e.caller && is_zero e.draw && founds e.write

abbrev pub IsFounding : Entry → Type 0
IsFounding e = IsTrue (is_founding e)

-- This entry may come next: the first founds the store, each other is the one that the answer to its own write gives.
abbrev pub ComesNext : ℕ → List Entry → Entry → Type 0
ComesNext limit [] e = IsFounding e
ComesNext limit (first ∷ more) e =
    (answer limit (first ∷ more) e.caller (command.Write e.write) e.moment e.draw).entry ≡ Some e

-- each entry comes next after those before it, and has a written form
abbrev pub IsLegalFrom : ℕ → List Entry → List Entry → Type 0
IsLegalFrom limit before [] = Unit {0}
IsLegalFrom limit before (e ∷ entries) =
    IsLawful e × ComesNext limit before e × IsLegalFrom limit (before ++ e ∷ []) entries

-- The history can have come about in a store of this limit.
abbrev pub IsLegal : ℕ → List Entry → Type 0
IsLegal limit entries = (0 < length entries) × IsLegalFrom limit [] entries

-- ---- histories that can be moved into another store

-- Whether an entry comes next, if there is room for it. The flag: it is the first.
abbrev pub may_come : Bool → State → Entry → Bool
may_come true st e = is_founding e
may_come false st e = is_none (said_at_once st e) && nat_le st.last e.moment

-- the entry may come after these, if there is room for it
abbrev pub MayComeAfter : List Entry → Entry → Type 0
MayComeAfter before e = may_come (length before == 0) (state before) e ≡ true

-- each entry may come after those before it, if there is room for it
abbrev pub MayComeFrom : List Entry → List Entry → Type 0
MayComeFrom before [] = Unit {0}
MayComeFrom before (e ∷ rest) = IsLawful e × MayComeAfter before e × MayComeFrom (before ++ e ∷ []) rest

-- each entry, written behind those before it, needs no more bytes than this
abbrev pub HasRoomFrom : ℕ → List Entry → List Entry → Type 0
HasRoomFrom limit before [] = Unit {0}
HasRoomFrom limit before (e ∷ rest) =
    (need (end_offset limit before) e ≤ limit) × HasRoomFrom limit (before ++ e ∷ []) rest

-- these entries can be moved into a file of this limit
abbrev pub IsMovable : ℕ → List Entry → Type 0
IsMovable limit h = MayComeFrom [] h × HasRoomFrom limit [] h
