-- What the desk's private functions say of reading a store's frames into the fold.
use Rattle.std.specs.Prelude.{◌≡◌, ◌+◌, ◌==◌, ◌&&◌, ◌||◌, nat_lt, ℕ, List, [], ◌∷◌, ◌++◌, length, map, Option, Bool}
use Rattle.std.specs.Prelude.{true, false, Result, Ok, Err}
use Rattle.std.specs.Option.{ForSome}
use Rattle.lrs_journal.specs.Store.{Stands}
use Rattle.lrs_journal.specs.declared.sizes.Format.TheVariants as format
use Rattle.lrs_journal.specs.Replay.{Replay, HasRead}
use Rattle.lrs_journal.specs.declared.replay.ReplayRefused.{ReplayRefused}
use Rattle.lrs_journal.specs.declared.replay.ReplayRefused.TheVariants as replay
use Rattle.lrs_journal.specs.declared.replay.RecoverRefused.{RecoverRefused}
use Rattle.lrs_journal.specs.declared.replay.RecoverRefused.TheVariants as recover
use Rattle.lrs_journal.specs.declared.create.CreateRefused.{CreateRefused}
use Rattle.lrs_journal.specs.declared.create.CreateRefused.TheVariants as create
use Rattle.lrs_record.specs.declared.entry.Entry.{Entry}
use Rattle.lrs_record.specs.Entries.{IsLawful, written_entry}
use Rattle.lrs_fold.specs.Next.{may_come}
use Rattle.lrs_fold.specs.LrsHistoryHistory.{end_offset, state, step, IsLegalFrom}
use Rattle.lrs_parts.specs.State.{State}
use Rattle.lrs_machine.specs.declared.opening.FoundRefused.{FoundRefused}
use Rattle.lrs_machine.specs.declared.opening.FoundRefused.TheVariants as found
use Rattle.lrs_machine.specs.declared.opening.DeskRefused.{DeskRefused}
use Rattle.lrs_machine.specs.declared.opening.DeskRefused.TheVariants as desk

-- Whether a frame may end there, where its end gate's offset is that: the first one anywhere, since founding made room
-- for it.
abbrev pub has_room : Bool → ℕ → ℕ → Bool
has_room first limit offset = first || nat_lt offset limit

-- Whether an entry comes next in a file of this limit. The flag: it is the first. The offset: where the end gate stands
-- after its frame.
abbrev pub may_follow : Bool → ℕ → ℕ → State → Entry → Bool
may_follow first limit offset st e = may_come first st e && has_room first limit offset

-- what reading a frame into the fold does, if k frames were taken in before
abbrev pub TakesEntry : List ℕ → ℕ → ℕ → ℕ → State → State → List Entry → List Entry → Result Unit DeskRefused → Type 0
TakesEntry frame k limit offset st su old new (Ok _) = (e : Entry) × IsLawful e × (written_entry e ≡ frame)
    × (may_follow (k == 0) limit offset st e ≡ true) × (su ≡ step st e) × (new ≡ old ++ e ∷ [])
TakesEntry frame k limit offset st su old new (Err (desk.IllegalEntry j)) = (j ≡ k)
    × ((e : Entry) → IsLawful e → written_entry e ≡ frame → may_follow (k == 0) limit offset st e ≡ false)
TakesEntry frame k limit offset st su old new (Err desk.Memory) = Unit {0}
TakesEntry frame k limit offset st su old new (Err other) = ⊥

-- The replay has read frames of these entries, each of which came next, and this is their fold.
pub record IsReplayed {D : Type 0} (replay : Replay D) (st : State) (h : List Entry) : Type 0 where
  pub format : replay.format ≡ format.Two
  pub legal : IsLegalFrom replay.limit [] h
  pub folded : st ≡ state h
  pub counts : replay.number ≡ length h
  pub offset : replay.offset ≡ end_offset replay.limit h

-- the bytes begin with the frames of these entries
abbrev pub HasReadEntries : {D : Type 0} → List ℕ → Replay D → List Entry → Type 0
HasReadEntries bytes replay h = HasRead bytes replay (map written_entry h)

-- the bytes are the frames of these entries, read to their end
abbrev pub HasReadAll : {D : Type 0} → List ℕ → Replay D → List Entry → Type 0
HasReadAll bytes replay h = HasReadEntries bytes replay h × Stands bytes replay.limit (map written_entry h)

-- the next frame was taken in, or the list ended
abbrev pub TakesFrame : {D : Type 0} → (D → Option (List ℕ)) → Replay D → State → ℕ → List Entry → Bool → Type 0
TakesFrame told new su k h true =
    (length h ≡ k + 1) × IsReplayed new su h × ForSome (told new.disk) (λ bytes. HasReadEntries bytes new h)
TakesFrame told new su k h false =
    (length h ≡ k) × IsReplayed new su h × ForSome (told new.disk) (λ bytes. HasReadAll bytes new h)

-- a frame that isn't read
abbrev pub refusal_of : ReplayRefused → DeskRefused
refusal_of (replay.Damaged k) = desk.Damaged k
refusal_of replay.Failed = desk.Failed
refusal_of replay.Memory = desk.Memory

-- a disk that isn't a store, or failed
abbrev pub opening_refusal : RecoverRefused → DeskRefused
opening_refusal recover.NotAStore = desk.NotAStore
opening_refusal recover.OldFormat = desk.OldFormat
opening_refusal recover.Failed = desk.Failed

-- a disk on which no store is made
abbrev pub founding_refusal : CreateRefused → FoundRefused
founding_refusal create.AlreadyStore = found.AlreadyStore
founding_refusal create.Foreign = found.Foreign
founding_refusal (create.Full need limit) = found.Full need limit
founding_refusal create.Failed = found.Failed
