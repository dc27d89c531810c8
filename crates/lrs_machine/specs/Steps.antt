-- What the desk's private functions say, over the journal, the fold and the line.
use Rattle.std.specs.Prelude.{◌≡◌, ◌⊎◌, ◌<◌, ◌≤◌, ◌+◌, ◌-◌, ◌*◌, ◌&&◌, ◌||◌, ◌++◌, ℕ, List, [], ◌∷◌, length, map, take}
use Rattle.std.specs.Prelude.{Option, Some, None, IsSome, is_some, is_ok, Bool, true, false, if◌then◌else◌, Result, Ok}
use Rattle.std.specs.Prelude.{Err}
use Rattle.std.specs.Option.{ForSome}
use Rattle.lrs_disk.specs.Disk.{LeavesOnly}
use Rattle.lrs_fold.specs.LrsHistoryHistory.{Answer, Outcome, answer_of, end_offset, state, step, IsLegal}
use Rattle.lrs_journal.specs.Journal.{Journal, frames_of, IsJournal, IsUnchanged, IsAppended}
use Rattle.lrs_journal.specs.Store.{Stands}
use Rattle.lrs_parts.specs.State.{State}
use Rattle.lrs_record.specs.Entries.{IsLawful, written_entry}
use Rattle.lrs_record.specs.declared.entry.Entry.{Entry}
use Rattle.lrs_replies.specs.declared.answered.Answered.{Answered}
use Rattle.lrs_replies.specs.declared.reply.Trouble.{Trouble}
use Rattle.lrs_replies.specs.declared.reply.Trouble.TheVariants.{Memory, Disk}
use Rattle.lrs_machine.specs.Line.{Record, entries, in_doubt, sure, AreBefore}
use Rattle.lrs_machine.specs.Acts.{landed_among}
use Rattle.lrs_machine.specs.Desk.{KeepsLine}

-- ---- what is true of every desk

-- The journal, the fold and the line tell of one history.
pub record IsTied {D : Type 0} (told : D → Option (List ℕ)) (image : D → List ℕ → Type 0) (time : D → ℕ)
    (image_since : D → ℕ → List ℕ → Type 0) (journal : Journal D) (st : State) (line : List Record) : Type 0 where
  pub sound : IsJournal told image journal
  pub folded : st ≡ state (entries line)
  pub legal : IsLegal journal.limit (entries line)
  pub counts : journal.number ≡ length (entries line)
  pub offset : journal.end ≡ end_offset journal.limit (entries line)
  pub doubts : journal.doubt ≡ in_doubt line
  -- the first entry stands without doubt
  pub founded : 1 ≤ sure line
  pub frames : ForSome (frames_of told journal) (λ payloads. payloads ≡ map written_entry (entries line))
  pub moments : AreBefore (time journal.disk) line
  pub kept : ForSome (told journal.disk) (λ _. KeepsLine journal.limit (time journal.disk)
      (image_since journal.disk) line)

-- how many entries stood at the opening, at least one
abbrev pub IsBegun : ℕ → List Entry → Type 0
IsBegun opened opening = (opened ≡ length opening) × (0 < opened)

abbrev pub one_if : Bool → ℕ
one_if b = if b then 1 else 0

-- How many records the line has. There are at most two for each entry: its own, and that of the act which ended its
-- doubt.
pub record IsCounted (records : ℕ) (line : List Record) : Type 0 where
  pub is : records ≡ length line
  pub few : length line + one_if (in_doubt line) ≤ 2 * length (entries line)

-- A journal without doubt, and the fold, tell of these entries.
pub record HoldsEntries {D : Type 0} (told : D → Option (List ℕ)) (image : D → List ℕ → Type 0) (journal : Journal D)
    (st : State) (h : List Entry) : Type 0 where
  pub sound : IsJournal told image journal
  pub folded : st ≡ state h
  pub legal : IsLegal journal.limit h
  pub counts : journal.number ≡ length h
  pub offset : journal.end ≡ end_offset journal.limit h
  pub settled : journal.doubt ≡ false
  pub frames : ForSome (frames_of told journal) (λ payloads. payloads ≡ map written_entry h)

-- ---- what an act does to the journal and the fold

-- the journal has the frame of the entry that was made
abbrev pub GrewBy : {D : Type 0} → (D → Option (List ℕ)) → Option Entry → Journal D → Journal D → Type 0
GrewBy told None old new = IsUnchanged told old new
GrewBy told (Some e) old new = IsLawful e × IsAppended told old new (written_entry e)

abbrev pub folded : State → Option Entry → State
folded st None = st
folded st (Some e) = step st e

-- what was said over the answer, and which entry was made
abbrev pub CarriesOut : Answer → Bool → Bool → Option Entry → Result Answered Trouble → Type 0
CarriesOut a old new made (Ok said) = (said ≡ a.said) × (made ≡ a.entry) × (new ≡ false)
CarriesOut a old new made (Err Memory) = (made ≡ None) × (new ≡ false)
CarriesOut a old new made (Err Disk) = ((made ≡ None) × (old ≡ false → new ≡ false))
    ⊎ (IsSome a.entry × (made ≡ a.entry) × (new ≡ true))

abbrev pub one_of : Option Entry → List Entry
one_of None = []
one_of (Some e) = e ∷ []

-- how many frames no crash takes
abbrev pub sure_of : Bool → ℕ → ℕ
sure_of doubt number = if doubt then number - 1 else number

-- the bytes stand for the first ones of these payloads, at least for so many
abbrev pub HoldsFrames : ℕ → ℕ → List (List ℕ) → List ℕ → Type 0
HoldsFrames limit least payloads bytes = (n : ℕ) × (least ≤ n) × (n ≤ length payloads)
    × Stands bytes limit (take n payloads)

-- a crash at any moment leaves the frames that stood without doubt before, and none but these and the entry's after
-- them
abbrev pub LeavesFrames : {D : Type 0} → (D → Option (List ℕ)) → (D → ℕ) → (D → ℕ → List ℕ → Type 0)
    → Journal D → Journal D → Option Entry → Type 0
LeavesFrames told time image_since old new made = ForSome (frames_of told old)
    (λ payloads. LeavesOnly time image_since old.disk new.disk
    (HoldsFrames old.limit (sure_of old.doubt (length payloads)) (payloads ++ map written_entry (one_of made))))

-- An act by what becomes of its command, and the entry that it made.
pub record Does {D : Type 0} (told : D → Option (List ℕ)) (time : D → ℕ) (image_since : D → ℕ → List ℕ → Type 0)
    (old new : Journal D) (st su : State) (v : Outcome) (said : Result Answered Trouble)
    (made : Option Entry) : Type 0 where
  pub grew : GrewBy told made old new
  pub folds : su ≡ folded st made
  pub says : CarriesOut (answer_of old.limit old.end v) old.doubt new.doubt made said
  pub later : time old.disk ≤ time new.disk
  pub leaves : LeavesFrames told time image_since old new made

-- the index of an earlier entry whose doubt was ended
abbrev pub landed_of : {D : Type 0} → Journal D → Journal D → Option Entry → Option ℕ
landed_of old new made = landed_among old.number old.doubt new.doubt (is_some made)

-- ---- what an act does to the line

-- the record of an act that changed the journal
abbrev pub record_made : Option Entry → Bool → Option ℕ → ℕ → Record
record_made made acknowledged landed moment =
    record { made = made; acknowledged = is_some made && acknowledged; landed = is_some landed; moment = moment }

abbrev pub line_after : List Record → Option Entry → Bool → Option ℕ → ℕ → List Record
line_after line made acknowledged landed moment =
    if is_some made || is_some landed then line ++ record_made made acknowledged landed moment ∷ [] else line

-- An act, by the lines before and after it.
pub record Happens (a : Answer) (said : Result Answered Trouble) (landed : Option ℕ) (moment : ℕ)
    (old new : List Record) : Type 0 where
  pub made : Option Entry
  pub says : CarriesOut a (in_doubt old) (in_doubt new) made said
  pub lands : landed ≡ landed_among (length (entries old)) (in_doubt old) (in_doubt new) (is_some made)
  pub line : new ≡ line_after old made (is_ok said) landed moment
  pub moments : AreBefore moment new
