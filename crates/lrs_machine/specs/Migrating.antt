-- What moving a store into another file promises.
use Rattle.std.specs.Prelude.{◌≡◌, ◌⊎◌, ◌<◌, ◌≤◌, ◌+◌, ℕ, List, [], ◌∷◌, ◌++◌, length, map, Option, Some, None}
use Rattle.std.specs.Prelude.{Bool, true, false, Result, Ok, Err}
use Rattle.std.specs.Option.{ForSome}
use Rattle.std.specs.List.{AllByRecursion}
use Rattle.lrs_disk.specs.Disk.{LeavesOnly}
use Rattle.lrs_disk.specs.Faults.{Rises}
use Rattle.lrs_journal.specs.Builder.{Builder, IsBuilding}
use Rattle.lrs_journal.specs.Create.{IsForeign, IsOpenTo, IsStore}
use Rattle.lrs_journal.specs.Journal.{IsSynced, TellsAlike}
use Rattle.lrs_journal.specs.Replay.{Replay}
use Rattle.lrs_journal.specs.Store.{store_in, HasHeaderIn, HasNoHeader, IsDamagedIn, IsPayload, StandsIn}
use Rattle.lrs_journal.specs.declared.create.CreateRefused.{CreateRefused}
use Rattle.lrs_journal.specs.declared.create.CreateRefused.TheVariants as create
use Rattle.lrs_journal.specs.declared.journal.AppendRefused.{AppendRefused}
use Rattle.lrs_journal.specs.declared.journal.AppendRefused.TheVariants as append
use Rattle.lrs_journal.specs.declared.replay.RecoverRefused.{RecoverRefused}
use Rattle.lrs_journal.specs.declared.replay.RecoverRefused.TheVariants as recover
use Rattle.lrs_journal.specs.declared.replay.ReplayRefused.{ReplayRefused}
use Rattle.lrs_journal.specs.declared.replay.ReplayRefused.TheVariants as replay
use Rattle.lrs_journal.specs.declared.sizes.Format.{Format}
use Rattle.lrs_journal.specs.declared.sizes.TheConstants.{MOST_BYTES}
use Rattle.lrs_record.specs.Entries.{IsLawful, written_entry}
use Rattle.lrs_record.specs.declared.entry.Entry.{Entry}
use Rattle.lrs_fold.specs.LrsHistoryHistory.{end_offset, need, state, step}
pub use Rattle.lrs_fold.specs.LrsHistoryHistory.{HasRoomFrom, IsMovable, MayComeAfter, MayComeFrom}
use Rattle.lrs_fold.specs.Next.{may_come}
use Rattle.lrs_parts.specs.State.{State}
use Rattle.lrs_machine.specs.Desk.{IsStoreOf}
use Rattle.lrs_machine.specs.Replays.{HasReadEntries}
use Rattle.lrs_machine.specs.declared.migrating.MigrateRefused.{MigrateRefused}
use Rattle.lrs_machine.specs.declared.migrating.MigrateRefused.TheVariants as migrate
use Rattle.lrs_machine.specs.declared.replaying.JudgeRefused.{JudgeRefused}
use Rattle.lrs_machine.specs.declared.replaying.JudgeRefused.TheVariants as judge

-- the limit of the new store: the chosen one, or that of the old store
abbrev pub chosen : Option ℕ → ℕ → ℕ
chosen None own = own
chosen (Some limit) own = limit

-- ---- why a store isn't moved

-- the bytes begin with an open header of this format and the whole open frames of these payloads
abbrev pub BeginsWithFramesIn : Format → List ℕ → ℕ → List (List ℕ) → Type 0
BeginsWithFramesIn f bytes own payloads = HasHeaderIn f bytes own × AllByRecursion IsPayload payloads
    × ((rest : List ℕ) × (bytes ≡ store_in f own payloads ++ rest))

-- the first k frames are those of entries that can be moved into a file of the chosen limit
abbrev pub HasFitFrames : Format → List ℕ → ℕ → Option ℕ → ℕ → List Entry → Type 0
HasFitFrames f bytes own limit k h = (length h ≡ k) × IsMovable (chosen limit own) h
    × BeginsWithFramesIn f bytes own (map written_entry h)

-- After the frames of h stands a whole one that is no entry, or not one that may come next.
pub record IsIllegalBehindIn (f : Format) (bytes : List ℕ) (own : ℕ) (h : List Entry) : Type 0 where
  pub frame : List ℕ
  pub begins : BeginsWithFramesIn f bytes own (map written_entry h ++ frame ∷ [])
  pub broken : (e : Entry) → IsLawful e → written_entry e ≡ frame → MayComeAfter h e → ⊥

-- After the frames of h stands that of an entry that may come next and needs more bytes than the new file may have.
pub record IsTooLongBehind (f : Format) (bytes : List ℕ) (own limit needed : ℕ) (h : List Entry) : Type 0 where
  pub entry : Entry
  pub lawful : IsLawful entry
  pub comes : MayComeAfter h entry
  pub begins : BeginsWithFramesIn f bytes own (map written_entry (h ++ entry ∷ []))
  pub needs : needed ≡ need (end_offset limit h) entry
  pub over : limit < needed

-- why the store of the first bytes isn't moved to a disk of the second
abbrev pub IsMigrateRefused : List ℕ → List ℕ → Option ℕ → MigrateRefused → Type 0
IsMigrateRefused old new limit migrate.NotAStore = HasNoHeader old
IsMigrateRefused old new limit migrate.AlreadyStore = (f : Format) × (own : ℕ) × HasHeaderIn f old own × IsStore new
IsMigrateRefused old new limit migrate.Foreign = (f : Format) × (own : ℕ) × HasHeaderIn f old own × IsForeign new
IsMigrateRefused old new limit (migrate.Damaged k) = (f : Format) × (own : ℕ) × (h : List Entry) × IsOpenTo new
    × HasFitFrames f old own limit k h × IsDamagedIn f old own (map written_entry h)
IsMigrateRefused old new limit (migrate.IllegalEntry k) = (f : Format) × (own : ℕ) × (h : List Entry) × IsOpenTo new
    × HasFitFrames f old own limit k h × (IsIllegalBehindIn f old own h ⊎ ((h ≡ []) × StandsIn f old own []))
IsMigrateRefused old new limit (migrate.Full need most) = (f : Format) × (own : ℕ) × (h : List Entry) × IsOpenTo new
    × HasFitFrames f old own limit (length h) h × (most ≡ chosen limit own) × IsTooLongBehind f old own most need h
IsMigrateRefused old new limit migrate.Failed = Unit {0}
IsMigrateRefused old new limit migrate.Memory = Unit {0}

-- a refusal that any two disks may get
abbrev pub IsFreeRefusal : MigrateRefused → Type 0
IsFreeRefusal migrate.NotAStore = ⊥
IsFreeRefusal migrate.AlreadyStore = ⊥
IsFreeRefusal migrate.Foreign = ⊥
IsFreeRefusal (migrate.Damaged k) = ⊥
IsFreeRefusal (migrate.IllegalEntry k) = ⊥
IsFreeRefusal (migrate.Full need most) = ⊥
IsFreeRefusal migrate.Failed = Unit {0}
IsFreeRefusal migrate.Memory = Unit {0}

-- a refusal that comes before anything is written
abbrev pub IsEarlyRefusal : MigrateRefused → Type 0
IsEarlyRefusal migrate.NotAStore = Unit {0}
IsEarlyRefusal migrate.AlreadyStore = Unit {0}
IsEarlyRefusal migrate.Foreign = Unit {0}
IsEarlyRefusal (migrate.Damaged k) = ⊥
IsEarlyRefusal (migrate.IllegalEntry k) = ⊥
IsEarlyRefusal (migrate.Full need most) = ⊥
IsEarlyRefusal migrate.Failed = ⊥
IsEarlyRefusal migrate.Memory = ⊥

-- A store, of either format, whose entries can be moved into a disk that is open to one is refused only for a fault or
-- if memory runs out.
abbrev pub SparesMovable : List ℕ → List ℕ → Option ℕ → MigrateRefused → Type 0
SparesMovable old new limit refused = (f : Format) (own : ℕ) (h : List Entry) → StandsIn f old own (map written_entry h)
    → 0 < length h → IsMovable (chosen limit own) h → IsOpenTo new → IsFreeRefusal refused

-- ---- what a stop leaves

-- the bytes stand for these entries, in either format
abbrev pub StandsForEntries : List ℕ → ℕ → List Entry → Type 0
StandsForEntries bytes own h = (f : Format) × StandsIn f bytes own (map written_entry h)

-- no open header, or a store of the entries of the old bytes
abbrev pub IsMovedOrNone : List ℕ → Option ℕ → List ℕ → Type 0
IsMovedOrNone old limit image = HasNoHeader image ⊎ ((own : ℕ) × (h : List Entry) × StandsForEntries old own h
    × IsStoreOf image (chosen limit own) h)

-- The same by the format and the limit of the old bytes, and the limit that was taken.
abbrev pub IsMovedFrom : Format → List ℕ → ℕ → ℕ → List ℕ → Type 0
IsMovedFrom f old own limit image = HasNoHeader image ⊎ ((h : List Entry) × StandsIn f old own (map written_entry h)
    × IsStoreOf image limit h)

-- The disk was taken with nothing pending, and held no store: a crash at any moment since then leaves bytes as P says.
abbrev pub BuildsOnly : {D : Type 0} → (D → Option (List ℕ)) → (D → List ℕ → Type 0) → (D → ℕ)
    → (D → ℕ → List ℕ → Type 0) → D → D → (List ℕ → Type 0) → Type 0
BuildsOnly told image time image_since old new P = IsSynced told image old
    → ForSome (told old) (λ bytes. (IsStore bytes → ⊥) → LeavesOnly time image_since old new P)

-- ---- what the private functions say

-- A run that left no open header before, and goes on to here, leaves bytes as P says.
abbrev pub GoesOn : {D : Type 0} → (D → ℕ) → (D → ℕ → List ℕ → Type 0) → D → D → (List ℕ → Type 0) → Type 0
GoesOn {D} time image_since old new P = (first : D) → LeavesOnly time image_since first old HasNoHeader
    → LeavesOnly time image_since first new P

-- what judging a frame does to the fold
abbrev pub JudgesEntry : List ℕ → Bool → State → State → List Entry → List Entry → Result Unit JudgeRefused → Type 0
JudgesEntry frame first st su old new (Ok _) = (e : Entry) × IsLawful e × (written_entry e ≡ frame)
    × (may_come first st e ≡ true) × (su ≡ step st e) × (new ≡ old ++ e ∷ [])
JudgesEntry frame first st su old new (Err judge.Illegal) =
    (e : Entry) → IsLawful e → written_entry e ≡ frame → may_come first st e ≡ false
JudgesEntry frame first st su old new (Err judge.Memory) = Unit {0}

-- A refusal that comes after the new store was begun. There is room for no more than the limit.
abbrev pub IsLateRefusal : ℕ → MigrateRefused → Type 0
IsLateRefusal limit migrate.NotAStore = ⊥
IsLateRefusal limit migrate.AlreadyStore = ⊥
IsLateRefusal limit migrate.Foreign = ⊥
IsLateRefusal limit (migrate.Damaged k) = Unit {0}
IsLateRefusal limit (migrate.IllegalEntry k) = Unit {0}
IsLateRefusal limit (migrate.Full need most) = (most ≡ limit) × (limit < need)
IsLateRefusal limit migrate.Failed = Unit {0}
IsLateRefusal limit migrate.Memory = Unit {0}

-- The replay and the builder went on: nothing but frames of one store was read, and no store was opened.
pub record Advances {D : Type 0} (told : D → Option (List ℕ)) (time : D → ℕ) (image_since : D → ℕ → List ℕ → Type 0)
    (old : Replay D) (was : Builder D) (new : Replay D) (now : Builder D) : Type 0 where
  pub format : new.format ≡ old.format
  pub own : new.limit ≡ old.limit
  pub limit : now.limit ≡ was.limit
  pub still : told new.disk ≡ told old.disk
  pub tells : TellsAlike (told was.disk) (told now.disk)
  pub leaves : LeavesOnly time image_since old.disk new.disk (λ bytes. told old.disk ≡ Some bytes)
  pub goes : GoesOn time image_since was.disk now.disk HasNoHeader
  pub later : time was.disk ≤ time now.disk

-- Two counts never fall, one of them rises if a call failed by a disk, and both stay if all went well.
pub record HaveCounts (old was new now : ℕ) (failed well : Type 0) : Type 0 where
  pub later : (old ≤ new) × (was ≤ now)
  pub cause : failed → Rises old new ⊎ Rises was now
  pub kept : well → (new ≡ old) × (now ≡ was)

-- The replay has read frames of these entries, which can be moved, the builder has laid them, and this is their fold.
pub record IsMoving {D : Type 0} (told : D → Option (List ℕ)) (replay : Replay D) (builder : Builder D) (st : State)
    (h : List Entry) : Type 0 where
  pub most : builder.limit ≤ MOST_BYTES
  pub near : builder.end ≤ MOST_BYTES
  pub movable : IsMovable builder.limit h
  pub folded : st ≡ state h
  pub counts : replay.number ≡ length h
  pub whole : builder.broken ≡ false
  pub laid : IsBuilding told builder (map written_entry h)
  pub read : ForSome (told replay.disk) (λ bytes. HasReadEntries bytes replay h)

-- the next frame was moved, or the list ended
abbrev pub MovesFrame : {D : Type 0} → (D → Option (List ℕ)) → Replay D → Builder D → State → ℕ → List Entry → Bool
    → Type 0
MovesFrame told replay builder st k h true = (length h ≡ k + 1) × IsMoving told replay builder st h
MovesFrame told replay builder st k h false = (length h ≡ k) × IsMoving told replay builder st h
    × ForSome (told replay.disk) (λ bytes. StandsIn replay.format bytes replay.limit (map written_entry h))

-- a disk that isn't read, or failed
abbrev pub unread_refusal : RecoverRefused → MigrateRefused
unread_refusal recover.NotAStore = migrate.NotAStore
unread_refusal recover.OldFormat = migrate.NotAStore
unread_refusal recover.Failed = migrate.Failed

-- a disk on which no store is begun
abbrev pub begin_refusal : CreateRefused → MigrateRefused
begin_refusal create.AlreadyStore = migrate.AlreadyStore
begin_refusal create.Foreign = migrate.Foreign
begin_refusal (create.Full need most) = migrate.Full need most
begin_refusal create.Failed = migrate.Failed

-- a frame that isn't read
abbrev pub frame_refusal : ReplayRefused → MigrateRefused
frame_refusal (replay.Damaged k) = migrate.Damaged k
frame_refusal replay.Failed = migrate.Failed
frame_refusal replay.Memory = migrate.Memory

-- frame k, if it isn't taken in
abbrev pub judge_refusal : JudgeRefused → ℕ → MigrateRefused
judge_refusal judge.Illegal k = migrate.IllegalEntry k
judge_refusal judge.Memory k = migrate.Memory

-- a frame that isn't added
abbrev pub add_refusal : AppendRefused → MigrateRefused
add_refusal (append.Full need most) = migrate.Full need most
add_refusal append.Failed = migrate.Failed
