-- What an act on a desk does, by its receipt and by the lines before and after it.
use Rattle.std.specs.Prelude.{◌≡◌, ◌⊎◌, ◌≤◌, ◌-◌, ◌==◌, ◌&&◌, ◌||◌, not, ℕ, List, [], ◌∷◌, ◌++◌, length, Option, Some}
use Rattle.std.specs.Prelude.{None, IsSome, is_some, Bool, true, false, if◌then◌else◌, Result, Ok, Err}
use Rattle.lrs_disk.specs.Faults.{Rises}
use Rattle.lrs_fold.specs.LrsHistoryHistory.{Answer}
use Rattle.lrs_record.specs.declared.entry.Entry.{Entry}
use Rattle.lrs_replies.specs.declared.answered.Answered.{Answered}
use Rattle.lrs_replies.specs.declared.reply.Trouble.{Trouble}
use Rattle.lrs_replies.specs.declared.reply.Trouble.TheVariants.{Memory, Disk}
use Rattle.lrs_turn.specs.Passes.{IsOneMore}
use Rattle.lrs_machine.specs.Line.{Record, entries, in_doubt, AreBefore}

-- ---- receipts

-- What a receipt tells of an act.
pub record Receipt : Type 0 where
  -- an act made it
  pub acted : Bool
  -- the reply's status
  pub status : ℕ
  -- how long the history was that answered
  pub point : ℕ
  -- where the act's own entry stands in the history, also one in doubt
  pub entry : Option ℕ
  -- where an earlier doubtful entry stands, whose doubt the act ended
  pub landed : Option ℕ
  -- the reading of the clock that the act was given
  pub clock : ℕ
  -- the disk's moment at the act's end
  pub disk : ℕ
  -- the disk's count of faults before the act and after it
  pub was : ℕ
  pub is : ℕ

-- a response without an act
abbrev pub plain_receipt : ℕ → Receipt
plain_receipt status = record {
  acted = false;
  status = status;
  point = 0;
  entry = None;
  landed = None;
  clock = 0;
  disk = 0;
  was = 0;
  is = 0;
}

abbrev pub index_where : Bool → ℕ → Option ℕ
index_where stands index = if stands then Some index else None

-- The index of the last one of these entries, whose doubt was ended. The flags: it was in doubt, one is in doubt now,
-- one was added. Without a new entry there is no doubt any more.
abbrev pub landed_among : ℕ → Bool → Bool → Bool → Option ℕ
landed_among entries was is added = index_where (was && not (is && not added)) (entries - 1)

-- ---- the line after an act

-- the act changed the journal
abbrev pub changed : Receipt → Bool
changed receipt = is_some receipt.entry || is_some receipt.landed

-- the entry that an act made, by the answer and its receipt
abbrev pub made_by : Answer → Receipt → Option Entry
made_by a receipt = if is_some receipt.entry then a.entry else None

abbrev pub record_of : Option Entry → Receipt → Record
record_of made receipt = record {
  made = made;
  acknowledged = is_some receipt.entry && not (receipt.status == 503);
  landed = is_some receipt.landed;
  moment = receipt.disk;
}

-- one record more if the act changed the journal
abbrev pub line_with : List Record → Option Entry → Receipt → List Record
line_with line made receipt = if changed receipt then line ++ record_of made receipt ∷ [] else line

abbrev pub line_behind : List Record → Answer → Receipt → List Record
line_behind line a receipt = line_with line (made_by a receipt) receipt

-- The line has one record more if the act changed the journal, and else it stays.
abbrev pub LineGoesOn : Receipt → List Record → List Record → Type 0
LineGoesOn receipt old new = (changed receipt ≡ true → IsOneMore new old) × (changed receipt ≡ false → new ≡ old)

-- ---- acts

-- The act's own entry, by what was said over the answer. Without trouble it is the answer's, and none is in doubt. In
-- trouble with the disk it may be the answer's, in doubt; without it nothing comes into doubt.
abbrev pub TellsEntry : Answer → ℕ → Bool → Bool → Option ℕ → Result Answered Trouble → Type 0
TellsEntry a point old new own (Ok said) = (said ≡ a.said) × (own ≡ index_where (is_some a.entry) point) × (new ≡ false)
TellsEntry a point old new own (Err Memory) = (own ≡ None) × (new ≡ false)
TellsEntry a point old new own (Err Disk) =
    ((own ≡ None) × (old ≡ false → new ≡ false)) ⊎ (IsSome a.entry × (own ≡ Some point) × (new ≡ true))

-- the disk's trouble is told exactly if its count rose in the act
abbrev pub HasDiskCause : ℕ → ℕ → Result Answered Trouble → Type 0
HasDiskCause before now (Ok said) = now ≡ before
HasDiskCause before now (Err Memory) = now ≡ before
HasDiskCause before now (Err Disk) = (before ≤ now) × Rises before now

-- An act that the abstract store answers by a, of which this was said, by the lines before and after it.
pub record Acts (a : Answer) (said : Result Answered Trouble) (receipt : Receipt) (old new : List Record) : Type 0 where
  pub acted : receipt.acted ≡ true
  pub point : receipt.point ≡ length (entries old)
  pub cause : HasDiskCause receipt.was receipt.is said
  pub tells : TellsEntry a receipt.point (in_doubt old) (in_doubt new) receipt.entry said
  pub landed : receipt.landed ≡ landed_among receipt.point (in_doubt old) (in_doubt new) (is_some receipt.entry)
  pub line : new ≡ line_behind old a receipt
  -- no record is of a later moment than the act's end
  pub moments : AreBefore receipt.disk new
