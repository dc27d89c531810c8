-- What callers see of a replay, and what it has read.
use Rattle.std.specs.Prelude.{◌≡◌, ◌≢◌, ◌<◌, ◌≤◌, ◌+◌, ◌^◌, ℕ, List, ◌∷◌, ◌++◌, length, take, drop, Bool, true, false}
use Rattle.std.specs.Prelude.{Result, Ok, Err}
use Rattle.std.specs.Int.{w32, to_be_bytes}
use Rattle.std.specs.List.{AllByRecursion}
use Rattle.lrs_journal.specs.Store.{store_in, body_in, number_in, head_of, IsPayload, IsEnd}
use Rattle.lrs_journal.specs.declared.sizes.Format.{Format}
use Rattle.lrs_journal.specs.declared.replay.Ahead.{Ahead}
use Rattle.lrs_journal.specs.declared.replay.Ahead.TheVariants as ahead
use Rattle.lrs_journal.specs.declared.replay.ReplayRefused.{ReplayRefused}
use Rattle.lrs_journal.specs.declared.replay.ReplayRefused.TheVariants as refused
use Rattle.lrs_journal.specs.declared.sizes.TheConstants.{LEAST_BYTES, MOST_BYTES}

-- A replay over a disk.
pub record Replay (D : Type 0) : Type 0 where
  pub disk : D
  pub format : Format
  -- the bytes that the header allows
  pub limit : ℕ
  -- where the next gate stands
  pub offset : ℕ
  -- how many frames were read
  pub number : ℕ
  -- the list's end was met
  pub ended : Bool

-- The bytes begin with a header of this format and limit and the whole open frames of these payloads, and there the
-- offset is.
pub record HasReadTo (f : Format) (bytes : List ℕ) (limit offset number : ℕ) (payloads : List (List ℕ)) : Type 0 where
  pub least : LEAST_BYTES ≤ limit
  pub most : limit ≤ MOST_BYTES
  pub sizes : AllByRecursion IsPayload payloads
  pub begins : bytes ≡ store_in f limit payloads ++ drop offset bytes
  pub behind : offset ≡ length (store_in f limit payloads)
  pub counts : number ≡ length payloads

-- the replay has read these payloads of the bytes
abbrev pub HasRead : {D : Type 0} → List ℕ → Replay D → List (List ℕ) → Type 0
HasRead bytes replay payloads =
    HasReadTo replay.format bytes replay.limit replay.offset replay.number payloads

-- nothing more was read
abbrev pub HasSameOffset : {D : Type 0} → Replay D → Replay D → Type 0
HasSameOffset old new = (new.offset ≡ old.offset) × (new.number ≡ old.number)

-- one frame more was read, of this payload
abbrev pub HasNextOffset : {D : Type 0} → Replay D → Replay D → List ℕ → Type 0
HasNextOffset old new payload =
    (new.offset ≡ old.offset + (head_of old.format + length payload)) × (new.number ≡ old.number + 1)

-- these bytes begin with an open gate and a whole frame k with a payload of this length
abbrev pub IsWholeFrame : Format → ℕ → List ℕ → ℕ → Type 0
IsWholeFrame f k bytes size = (behind : List ℕ) × (bytes ≡ 1 ∷ to_be_bytes w32 size ++ number_in f k ++ behind)
    × (size ≤ length behind)

-- an open gate and a byte, and no whole frame k
abbrev pub IsTorn : Format → ℕ → List ℕ → Type 0
IsTorn f k bytes = (behind : List ℕ) × (bytes ≡ 1 ∷ behind) × (0 < length behind)
    × ((payload rest : List ℕ) → IsPayload payload → behind ≢ body_in f k payload ++ rest)

-- what these bytes begin with, where frame k would stand
abbrev pub IsAhead : Format → ℕ → List ℕ → Ahead → Type 0
IsAhead f k bytes ahead.End = IsEnd bytes
IsAhead f k bytes ahead.Torn = IsTorn f k bytes
IsAhead f k bytes (ahead.Frame size) = IsWholeFrame f k bytes size

-- what these bytes have at an offset, and the payload if that is a whole frame k
abbrev pub IsFetched : Format → ℕ → List ℕ → ℕ → Ahead → List ℕ → Type 0
IsFetched f k bytes offset found payload = IsAhead f k (drop offset bytes) found
    × ((size : ℕ) → found ≡ ahead.Frame size → payload ≡ take size (drop (offset + head_of f) bytes))

-- A frame of this length at an offset of a disk of so many bytes, and its payload.
pub record IsFrameWithin (f : Format) (offset total size : ℕ) (payload : List ℕ) : Type 0 where
  pub small : size < 2 ^ 32
  pub fits : offset + head_of f + size ≤ total
  pub long : length payload ≡ size

-- What becomes of the offset, the number of frames and the end by what was fetched, and what is answered.
abbrev pub IsPassed : Format → Result Ahead ReplayRefused → ℕ → ℕ → Bool → ℕ → ℕ → Bool
    → Result Bool ReplayRefused → Type 0
IsPassed f (Ok ahead.End) offset number ended p n e said =
    (p ≡ offset) × (n ≡ number) × (e ≡ true) × (said ≡ Ok false)
IsPassed f (Ok ahead.Torn) offset number ended p n e said =
    (p ≡ offset) × (n ≡ number) × (e ≡ ended) × (said ≡ Err (refused.Damaged number))
IsPassed f (Ok (ahead.Frame size)) offset number ended p n e said =
    (p ≡ offset + (head_of f + size)) × (n ≡ number + 1) × (e ≡ false) × (said ≡ Ok true)
IsPassed f (Err failure) offset number ended p n e said =
    (p ≡ offset) × (n ≡ number) × (e ≡ ended) × (said ≡ Err failure)
