-- What the bytes of a disk stand for: a header, open frames, and an end.
use Rattle.std.specs.Prelude.{◌≡◌, ◌≢◌, ◌⊎◌, ◌<◌, ◌≤◌, ◌+◌, ◌-◌, ◌^◌, ℕ, zero, suc, List, [], ◌∷◌, ◌++◌, length, take}
use Rattle.std.specs.Prelude.{drop, min, get_or, Bool, ◌&&◌, ◌==◌, nat_le, if◌then◌else◌}
use Rattle.std.specs.List.{AllByRecursion}
use Rattle.std.specs.Int.{w32, w64, to_be_bytes, from_be_bytes}
use Rattle.lrs_journal.specs.declared.sizes.Format.{Format}
use Rattle.lrs_journal.specs.declared.sizes.Format.TheVariants as format
use Rattle.lrs_journal.specs.declared.sizes.TheConstants.{FRAME_HEAD, OLD_FRAME_HEAD, HEADER, LEAST_BYTES, MOST_BYTES}

-- LRSJRNL
abbrev pub magic : List ℕ
magic = 76 ∷ 82 ∷ 83 ∷ 74 ∷ 82 ∷ 78 ∷ 76 ∷ []

-- the version that a header tells
abbrev pub version_of : Format → ℕ
version_of format.One = 1
version_of format.Two = 2

-- the bytes of a frame before its payload
abbrev pub head_of : Format → ℕ
head_of format.One = OLD_FRAME_HEAD
head_of format.Two = FRAME_HEAD

-- an open gate, the magic, the version and the limit
abbrev pub header_in : Format → ℕ → List ℕ
header_in f limit = 1 ∷ magic ++ version_of f ∷ to_be_bytes w64 limit

-- a limit that a header may allow
abbrev pub IsLimit : ℕ → Type 0
IsLimit limit = (LEAST_BYTES ≤ limit) × (limit ≤ MOST_BYTES)

-- The bytes begin with an open header of this format and limit.
pub record HasHeaderIn (f : Format) (bytes : List ℕ) (limit : ℕ) : Type 0 where
  pub least : LEAST_BYTES ≤ limit
  pub most : limit ≤ MOST_BYTES
  pub rest : List ℕ
  pub split : bytes ≡ header_in f limit ++ rest

-- the bytes begin with no open header, of whatever format
abbrev pub HasNoHeader : List ℕ → Type 0
HasNoHeader bytes = (f : Format) (limit : ℕ) → HasHeaderIn f bytes limit → ⊥

-- the number of a frame, which the old format doesn't tell
abbrev pub number_in : Format → ℕ → List ℕ
number_in format.One k = []
number_in format.Two k = to_be_bytes w64 k

-- frame k after its gate: the length, the number and the payload
abbrev pub body_in : Format → ℕ → List ℕ → List ℕ
body_in f k payload = to_be_bytes w32 (length payload) ++ number_in f k ++ payload

-- open frames of these payloads, numbered from k on
abbrev pub frames_in : Format → ℕ → List (List ℕ) → List ℕ
frames_in f k [] = []
frames_in f k (payload ∷ payloads) = 1 ∷ body_in f k payload ++ frames_in f (k + 1) payloads

abbrev pub store_in : Format → ℕ → List (List ℕ) → List ℕ
store_in f limit payloads = header_in f limit ++ frames_in f 0 payloads

-- The same in the format that is written.

abbrev pub header : ℕ → List ℕ
header limit = header_in format.Two limit

abbrev pub HasHeader : List ℕ → ℕ → Type 0
HasHeader bytes limit = HasHeaderIn format.Two bytes limit

abbrev pub body : ℕ → List ℕ → List ℕ
body k payload = body_in format.Two k payload

abbrev pub frames : List (List ℕ) → List ℕ
frames payloads = frames_in format.Two 0 payloads

abbrev pub store : ℕ → List (List ℕ) → List ℕ
store limit payloads = store_in format.Two limit payloads

-- The bytes that a store has whose end gate stands here, with one frame more: its head, its payload and the new end
-- gate.
abbrev pub need_at : ℕ → List ℕ → ℕ
need_at offset payload = offset + (FRAME_HEAD + 1) + length payload

-- the same as it is told: a number beyond 64 bits stays at their last value
abbrev pub need_told : ℕ → List ℕ → ℕ
need_told offset payload = min (need_at offset payload) (2 ^ 64 - 1)

-- the list ends here: no byte, a last one, or a gate that isn't 1
abbrev pub IsEnd : List ℕ → Type 0
IsEnd [] = Unit {0}
IsEnd (gate ∷ []) = Unit {0}
IsEnd (gate ∷ next ∷ rest) = gate ≢ 1

abbrev pub IsPayload : List ℕ → Type 0
IsPayload payload = length payload < 2 ^ 32

-- The bytes begin with an open header of this format and limit, and then stand for these payloads. What follows the end
-- is free.
pub record StandsIn (f : Format) (bytes : List ℕ) (limit : ℕ) (payloads : List (List ℕ)) : Type 0 where
  pub least : LEAST_BYTES ≤ limit
  pub most : limit ≤ MOST_BYTES
  pub sizes : AllByRecursion IsPayload payloads
  pub rest : List ℕ
  pub split : bytes ≡ store_in f limit payloads ++ rest
  pub ends : IsEnd rest

-- After these payloads there is an open gate and a byte, and no whole frame with the number that comes next.
pub record IsDamagedIn (f : Format) (bytes : List ℕ) (limit : ℕ) (payloads : List (List ℕ)) : Type 0 where
  pub sizes : AllByRecursion IsPayload payloads
  pub rest : List ℕ
  pub split : bytes ≡ store_in f limit payloads ++ 1 ∷ rest
  pub more : 0 < length rest
  pub torn : (payload behind : List ℕ) → IsPayload payload → rest ≢ body_in f (length payloads) payload ++ behind

-- The same in the format that is written.

abbrev pub Stands : List ℕ → ℕ → List (List ℕ) → Type 0
Stands bytes limit payloads = StandsIn format.Two bytes limit payloads

abbrev pub IsDamaged : List ℕ → ℕ → List (List ℕ) → Type 0
IsDamaged bytes limit payloads = IsDamagedIn format.Two bytes limit payloads

-- the bytes stand for the payloads, with one more or without it
abbrev pub IsBeforeOrAfter : ℕ → List (List ℕ) → List ℕ → List ℕ → Type 0
IsBeforeOrAfter limit payloads payload bytes = Stands bytes limit payloads
    ⊎ Stands bytes limit (payloads ++ payload ∷ [])

-- Reading the list of a store in the format that is written. Stands is its meaning. This looks at no number, since it is
-- asked only where bytes stand for a list.

-- the length that a frame's four bytes spell
abbrev pub length_at : List ℕ → ℕ
length_at bytes = from_be_bytes w32 (take 4 (drop 1 bytes))

-- an open gate and a whole frame
abbrev pub begins_open : List ℕ → Bool
begins_open bytes = (get_or bytes 0 0 == 1) && nat_le (FRAME_HEAD + length_at bytes) (length bytes)

-- the payloads of the open frames at the beginning, at most this many
abbrev pub payloads_within : ℕ → List ℕ → List (List ℕ)
payloads_within zero bytes = []
payloads_within (suc n) bytes = if begins_open bytes
    then take (length_at bytes) (drop FRAME_HEAD bytes) ∷ payloads_within n (drop (FRAME_HEAD + length_at bytes) bytes)
    else []

-- the payloads that a store's bytes stand for
abbrev pub payloads_in : List ℕ → List (List ℕ)
payloads_in bytes = payloads_within (length bytes) (drop HEADER bytes)
