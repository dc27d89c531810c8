-- What the desk's calls promise.
use base.Stored.{Coded}
use Rattle.std.specs.Prelude.{◌≡◌, ◌⊎◌, ◌<◌, ◌≤◌, ◌+◌, ℕ, List, [], ◌∷◌, ◌++◌, length, map, take, slice_get, Option}
use Rattle.std.specs.Prelude.{Some, Bool, true, is_some, is_none, nat_lt}
use Rattle.std.specs.Option.{ForSome}
use Rattle.std.specs.List.{AllByRecursion}
use Rattle.lrs_disk.specs.Disk.{LeavesOnly}
use Rattle.lrs_journal.specs.Store.{store, HasHeader, HasHeaderIn, HasNoHeader, IsPayload, Stands, IsDamaged}
use Rattle.lrs_journal.specs.declared.sizes.Format.TheVariants as format
use Rattle.lrs_journal.specs.Journal.{IsSynced, StandsForFrames, TellsStore}
use Rattle.lrs_record.specs.declared.entry.Entry.{Entry}
use Rattle.lrs_record.specs.Entries.{IsLawful, written_entry}
use Rattle.lrs_journal.specs.Create.{IsStore, IsForeign, IsOpenTo, IsMade, need_of_first}
use Rattle.lrs_record.specs.declared.entry.Area.{Area}
use Rattle.lrs_fold.specs.LrsHistoryHistory.{state, ComesNext, IsLegal, IsLegalFrom}
use Rattle.lrs_fold.specs.LrsHistoryRefusals.{barred}
use Rattle.lrs_fold.specs.LrsHistoryWhose.{who_is}
use Rattle.lrs_record.specs.declared.entry.Caller.{Caller}
use Rattle.lrs_parts.specs.Parts.{AddsNoSlots, SeenParts as Parts}
use Rattle.lrs_machine.specs.Line.{Record, entries, in_doubt, sure, opened_line, AreBefore, BeginsWith}
use Rattle.lrs_machine.specs.Acts.{Receipt, landed_among, index_where}
use Rattle.lrs_machine.specs.Numbers.{numbers_of}
use Rattle.lrs_machine.specs.declared.opening.DeskRefused.{DeskRefused}
use Rattle.lrs_machine.specs.declared.opening.DeskRefused.TheVariants as desk
use Rattle.lrs_machine.specs.declared.opening.FoundRefused.{FoundRefused}
use Rattle.lrs_machine.specs.declared.opening.FoundRefused.TheVariants as found

-- A desk, as clauses see it.
pub record Desk (D : Type 0) : Type 0 where
  pub disk : D
  -- the bytes that the journal's file may have
  pub limit : ℕ
  -- the disk's moment at the end of the opening, and how many entries stood then
  pub opened_at : ℕ
  pub opened : ℕ
  -- the disk as it was then
  pub origin : D
  -- the records of these entries, and one for each act since then that changed the journal
  pub line : List Record
  -- what is held in memory, with the slots that were made ahead
  pub parts : Parts

-- the one history of a desk, with an entry that is in doubt
abbrev pub history : {D : Type 0} → Desk D → List Entry
history desk = entries desk.line

-- The numbers that no act changes: the limit, and of the opening the moment, the number of entries, and the disk.
abbrev pub marks_of : {D : Type 0} → Coded D → Desk D → List ℕ
marks_of code desk = desk.limit ∷ desk.opened_at ∷ desk.opened ∷ numbers_of code desk.origin

-- How far a disk has come: its count of faults, and its moment. Neither falls.
pub record Tide : Type 0 where
  pub faults : ℕ
  pub moment : ℕ

abbrev pub tide_at : {D : Type 0} → (D → ℕ) → (D → ℕ) → D → Tide
tide_at faults time disk = record { faults = faults disk; moment = time disk }

-- the tide of a desk's disk, as numbers of which no act lets one fall
abbrev pub tide_of : {D : Type 0} → (D → ℕ) → (D → ℕ) → Desk D → List ℕ
tide_of faults time desk = faults desk.disk ∷ time desk.disk ∷ []

-- ---- what the disk holds

-- the bytes are those of a store with a legal history
abbrev pub IsStoreOf : List ℕ → ℕ → List Entry → Type 0
IsStoreOf bytes limit h = Stands bytes limit (map written_entry h) × IsLegal limit h

-- what a read of the disk gives stands for the history, or in doubt for it without its last entry
abbrev pub LeavesStore : {D : Type 0} → (D → Option (List ℕ)) → D → ℕ → Bool → List Entry → Type 0
LeavesStore told disk limit doubt h = TellsStore (told disk) limit doubt (map written_entry h)

-- ---- what a stop leaves

-- the bytes are a store of the first entries of the history, at least of so many
abbrev pub HoldsPrefix : ℕ → ℕ → List Entry → List ℕ → Type 0
HoldsPrefix limit least h bytes = (n : ℕ) × (least ≤ n) × (n ≤ length h) × IsStoreOf bytes limit (take n h)

-- A crash at any moment since old leaves the first entries of the history of new, at least all that stood without
-- doubt in old.
abbrev pub StopsWithin : {D : Type 0} → (D → Option (List ℕ)) → (D → ℕ) → (D → ℕ → List ℕ → Type 0) → Desk D
    → Desk D → Type 0
StopsWithin told time image_since old new =
    ForSome (told old.disk) (λ _. LeavesOnly time image_since old.disk new.disk
    (HoldsPrefix old.limit (sure old.line) (history new)))

-- Each image since the moment of a record holds all entries that stood without doubt after it, whatever came later.
abbrev pub KeepsLine : ℕ → ℕ → (ℕ → List ℕ → Type 0) → List Record → Type 0
KeepsLine limit now since line =
    (k : ℕ) (r : Record) → slice_get line k ≡ Some r
    → (r.moment ≤ now) × ((bytes : List ℕ) → since r.moment bytes
    → HoldsPrefix limit (sure (take (k + 1) line)) (entries line) bytes)

-- What is true of every desk. Its history can have come about, and goes on from that of the opening. What a read of the
-- disk gives, and each image that a crash now may leave, stands for it, or in doubt for it without its last entry.
pub record IsOnDisk {D : Type 0} (told : D → Option (List ℕ)) (image : D → List ℕ → Type 0) (time : D → ℕ)
    (image_since : D → ℕ → List ℕ → Type 0) (desk : Desk D) : Type 0 where
  pub legal : IsLegal desk.limit (history desk)
  pub opening : (0 < desk.opened) × (desk.opened ≤ length (history desk))
      × BeginsWith (opened_line desk.opened_at (take desk.opened (history desk))) desk.line
  pub moments : AreBefore (time desk.disk) desk.line
  pub reads : (bytes : List ℕ) → told desk.disk ≡ Some bytes
      → StandsForFrames desk.limit (in_doubt desk.line) (map written_entry (history desk)) bytes
  pub each : (bytes : List ℕ) → image desk.disk bytes
      → StandsForFrames desk.limit (in_doubt desk.line) (map written_entry (history desk)) bytes
  pub kept : ForSome (told desk.disk) (λ _. KeepsLine desk.limit (time desk.disk) (image_since desk.disk) desk.line)

-- ---- what an act leaves in memory

-- Where no entry came of it, no slot is in memory that wasn't there before.
abbrev pub LeavesNoSlot : {D : Type 0} → Desk D → Desk D → Type 0
LeavesNoSlot old new = length (history new) ≡ length (history old) → AddsNoSlots old.parts new.parts

-- ---- who is let in

abbrev pub lets_in : List Entry → Caller → Area → Bool
lets_in h caller area = is_none (barred area (who_is (state h) caller))

-- ---- receipts

-- the index of the entry that was added
abbrev pub added_index : {D : Type 0} → Desk D → Desk D → Option ℕ
added_index old new = index_where (nat_lt (length (history old)) (length (history new))) (length (history old))

-- the index of the entry whose doubt was ended
abbrev pub landed_index : {D : Type 0} → Desk D → Desk D → Option ℕ
landed_index old new =
    landed_among (length (history old)) (in_doubt old.line) (in_doubt new.line) (is_some (added_index old new))

abbrev pub receipt_of : {D : Type 0} → (D → ℕ) → (D → ℕ) → Desk D → Desk D → ℕ → ℕ → Receipt
receipt_of time faults old new status clock = record {
  acted = true;
  status = status;
  point = length (history old);
  entry = added_index old new;
  landed = landed_index old new;
  clock = clock;
  disk = time new.disk;
  was = faults old.disk;
  is = faults new.disk;
}

-- ---- founding and opening

-- why no store with this entry is made on a disk of these bytes
abbrev pub IsNotFounded : List ℕ → ℕ → Entry → FoundRefused → Type 0
IsNotFounded bytes limit e found.AlreadyStore = IsStore bytes
IsNotFounded bytes limit e found.Foreign = IsForeign bytes
IsNotFounded bytes limit e (found.Full need most) = IsOpenTo bytes × (need ≡ need_of_first (written_entry e))
    × (most ≡ limit) × (limit < need)
IsNotFounded bytes limit e found.Failed = Unit {0}
IsNotFounded bytes limit e found.Memory = Unit {0}

-- the bytes begin with a store's header and the whole open frames of these payloads
abbrev pub BeginsWithFrames : List ℕ → ℕ → List (List ℕ) → Type 0
BeginsWithFrames bytes limit payloads = HasHeader bytes limit × AllByRecursion IsPayload payloads
    × ((rest : List ℕ) × (bytes ≡ store limit payloads ++ rest))

-- After the frames of h stands a whole one that is no entry, or not one that may come next.
pub record IsIllegalBehind (bytes : List ℕ) (limit : ℕ) (h : List Entry) : Type 0 where
  pub frame : List ℕ
  pub begins : BeginsWithFrames bytes limit (map written_entry h ++ frame ∷ [])
  pub broken : (e : Entry) → IsLawful e → written_entry e ≡ frame → ComesNext limit h e → ⊥

-- the first k frames are those of entries of which each may come next
abbrev pub HasLegalFrames : List ℕ → ℕ → ℕ → List Entry → Type 0
HasLegalFrames bytes limit k h =
    (length h ≡ k) × IsLegalFrom limit [] h × BeginsWithFrames bytes limit (map written_entry h)

-- why a disk of these bytes isn't opened
abbrev pub IsDeskRefused : List ℕ → DeskRefused → Type 0
IsDeskRefused bytes desk.NotAStore = HasNoHeader bytes
IsDeskRefused bytes desk.OldFormat = (limit : ℕ) × HasHeaderIn format.One bytes limit
IsDeskRefused bytes (desk.Damaged k) = (limit : ℕ) × (h : List Entry) × HasLegalFrames bytes limit k h
    × IsDamaged bytes limit (map written_entry h)
IsDeskRefused bytes (desk.IllegalEntry k) = (limit : ℕ) × (h : List Entry) × HasLegalFrames bytes limit k h
    × (IsIllegalBehind bytes limit h ⊎ ((h ≡ []) × Stands bytes limit []))
IsDeskRefused bytes desk.Failed = Unit {0}
IsDeskRefused bytes desk.Memory = Unit {0}

-- a refusal that any disk may get
abbrev pub IsFree : DeskRefused → Type 0
IsFree desk.NotAStore = ⊥
IsFree desk.OldFormat = ⊥
IsFree (desk.Damaged k) = ⊥
IsFree (desk.IllegalEntry k) = ⊥
IsFree desk.Failed = Unit {0}
IsFree desk.Memory = Unit {0}

-- the store of a legal history is refused only for a fault or if memory runs out
abbrev pub SparesLegal : List ℕ → DeskRefused → Type 0
SparesLegal bytes refused = (limit : ℕ) (h : List Entry) → IsStoreOf bytes limit h → IsFree refused

-- ---- what a stop leaves of a founding and of an opening

-- The disk was taken with nothing pending, and held no store: a crash at any moment since then leaves none, or the one
-- of this entry.
abbrev pub MakesOnly : {D : Type 0} → (D → Option (List ℕ)) → (D → List ℕ → Type 0) → (D → ℕ)
    → (D → ℕ → List ℕ → Type 0) → ℕ → Entry → D → D → Type 0
MakesOnly told image time image_since limit e old new = IsSynced told image old
    → ForSome (told old) (λ bytes. (IsStore bytes → ⊥)
    → LeavesOnly time image_since old new (IsMade limit (written_entry e)))

-- both are stores of one legal history
abbrev pub AreOneStore : List ℕ → List ℕ → Type 0
AreOneStore a b = (limit : ℕ) × (h : List Entry) × IsStoreOf a limit h × IsStoreOf b limit h

-- The disk was taken with nothing pending: a crash at any moment since then leaves bytes that are to these as P says.
abbrev pub OpensOnly : {D : Type 0} → (D → Option (List ℕ)) → (D → List ℕ → Type 0) → (D → ℕ)
    → (D → ℕ → List ℕ → Type 0) → D → D → (List ℕ → List ℕ → Type 0) → Type 0
OpensOnly told image time image_since old new P = IsSynced told image old
    → ForSome (told old) (λ bytes. LeavesOnly time image_since old new (P bytes))

-- what was there, or a store of the same history
abbrev pub IsSameStore : List ℕ → List ℕ → Type 0
IsSameStore bytes after = (after ≡ bytes) ⊎ AreOneStore bytes after
