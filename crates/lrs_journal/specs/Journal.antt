-- What callers see of a journal, and what it stands for.
use Rattle.std.specs.Prelude.{◌≡◌, ◌⊎◌, ◌<◌, ◌≤◌, ◌+◌, ◌-◌, ◌^◌, ℕ, List, [], ◌∷◌, ◌++◌, length, Option, Some, None, option_map, Bool}
use Rattle.std.specs.Prelude.{true, false, if◌then◌else◌}
use Rattle.std.specs.Option.{ForSome}
use Rattle.lrs_disk.specs.Disk.{written}
use Rattle.lrs_disk.specs.Faults.{Rises}
use Rattle.lrs_journal.specs.Store.{need_at, payloads_in, store, Stands}
use Rattle.lrs_journal.specs.declared.sizes.TheConstants.{FRAME_HEAD, LEAST_BYTES, MOST_BYTES}

-- A journal over a disk.
pub record Journal (D : Type 0) : Type 0 where
  pub disk : D
  -- the bytes that the header allows
  pub limit : ℕ
  -- where the first gate stands that isn't known to be open: the end gate, or in doubt that of the last frame
  pub gate : ℕ
  -- where the end gate stands, after all frames
  pub end : ℕ
  -- the gate of the last frame may be open on the disk or not
  pub doubt : Bool
  -- how many frames there are, with the doubtful one
  pub number : ℕ

-- the bytes as they read once a doubtful gate is open
abbrev pub settled : Bool → ℕ → List ℕ → List ℕ
settled doubt gate bytes = if doubt then written bytes gate (1 ∷ []) else bytes

-- the payloads of the frames for which a journal stands, with the doubtful one, if its disk tells what it holds
abbrev pub frames_of : {D : Type 0} → (D → Option (List ℕ)) → Journal D → Option (List (List ℕ))
frames_of told journal =
    option_map (λ bytes. payloads_in (settled journal.doubt journal.gate bytes)) (told journal.disk)

-- the bytes stand for the payloads, or in doubt for all but the last
abbrev pub StandsForFrames : ℕ → Bool → List (List ℕ) → List ℕ → Type 0
StandsForFrames limit false payloads bytes = Stands bytes limit payloads
StandsForFrames limit true payloads bytes = (before : List (List ℕ)) × (last : List ℕ)
    × (payloads ≡ before ++ last ∷ []) × (Stands bytes limit before ⊎ Stands bytes limit payloads)

-- The journal stands for these payloads as its disk reads, and on each image that a crash now may leave.
pub record IsHolding {D : Type 0} (told : D → Option (List ℕ)) (image : D → List ℕ → Type 0) (journal : Journal D)
    (payloads : List (List ℕ)) : Type 0 where
  pub reads : (bytes : List ℕ) → told journal.disk ≡ Some bytes
      → StandsForFrames journal.limit journal.doubt payloads bytes
  pub each : (bytes : List ℕ) → image journal.disk bytes → StandsForFrames journal.limit journal.doubt payloads bytes
  pub offset : journal.end ≡ length (store journal.limit payloads)
  pub counts : journal.number ≡ length payloads

-- What is true of every journal.
pub record IsJournal {D : Type 0} (told : D → Option (List ℕ)) (image : D → List ℕ → Type 0)
    (journal : Journal D) : Type 0 where
  pub least : LEAST_BYTES ≤ journal.limit
  pub most : journal.limit ≤ MOST_BYTES
  pub holds : ForSome (frames_of told journal) (IsHolding told image journal)

-- what is told of both or of neither
abbrev pub TellsAlike : Option (List ℕ) → Option (List ℕ) → Type 0
TellsAlike None None = Unit {0}
TellsAlike None (Some c) = ⊥
TellsAlike (Some b) None = ⊥
TellsAlike (Some b) (Some c) = Unit {0}

-- what is told are bytes that stand for these payloads, or in doubt for all but the last
abbrev pub TellsStore : Option (List ℕ) → ℕ → Bool → List (List ℕ) → Type 0
TellsStore told limit doubt payloads =
    (bytes : List ℕ) × (told ≡ Some bytes) × StandsForFrames limit doubt payloads bytes

-- the disk tells bytes that stand for these payloads
abbrev pub Stores : {D : Type 0} → (D → Option (List ℕ)) → D → ℕ → List (List ℕ) → Type 0
Stores told disk limit payloads = TellsStore (told disk) limit false payloads

-- a crash now leaves what a read gives
abbrev pub IsSynced : {D : Type 0} → (D → Option (List ℕ)) → (D → List ℕ → Type 0) → D → Type 0
IsSynced told image disk = (bytes : List ℕ) → image disk bytes → told disk ≡ Some bytes

-- A count never falls, rises if a call failed by the disk, and stays if all went well.
pub record HasCount (before now : ℕ) (failed well : Type 0) : Type 0 where
  pub later : before ≤ now
  pub cause : failed → Rises before now
  pub kept : well → now ≡ before

-- what an append of these bytes needs
abbrev pub need_of : {D : Type 0} → Journal D → List ℕ → ℕ
need_of journal payload = need_at journal.end payload

-- The journal with one frame more.
pub record IsAppended {D : Type 0} (told : D → Option (List ℕ)) (old new : Journal D) (payload : List ℕ) : Type 0 where
  pub frames : frames_of told new ≡ option_map (λ payloads. payloads ++ payload ∷ []) (frames_of told old)
  pub number : new.number ≡ old.number + 1
  pub end : new.end ≡ old.end + (FRAME_HEAD + length payload)
  pub limit : new.limit ≡ old.limit

-- The same frames.
pub record IsUnchanged {D : Type 0} (told : D → Option (List ℕ)) (old new : Journal D) : Type 0 where
  pub frames : frames_of told new ≡ frames_of told old
  pub number : new.number ≡ old.number
  pub end : new.end ≡ old.end
  pub limit : new.limit ≡ old.limit

-- The frame was added in doubt, or nothing was.
abbrev pub IsAppendFailed : {D : Type 0} → (D → Option (List ℕ)) → Journal D → Journal D → List ℕ → Type 0
IsAppendFailed told old new payload = ((new.doubt ≡ true) × IsAppended told old new payload)
    ⊎ ((new.doubt ≡ false) × IsUnchanged told old new)

-- How many calls of a disk were made between two of its moments. Each call moves it by one. At the last value of u64 it
-- stands still, and tells nothing.
abbrev pub MakesAtMost : ℕ → ℕ → ℕ → Type 0
MakesAtMost calls before now = (now ≤ before + calls) ⊎ (2 ^ 64 - 1 ≤ now)

abbrev pub MakesMore : ℕ → ℕ → ℕ → Type 0
MakesMore calls before now = (before + calls < now) ⊎ (2 ^ 64 - 1 ≤ now)
