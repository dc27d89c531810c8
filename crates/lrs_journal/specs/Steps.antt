-- What a crash in a step leaves, and what a journal's fields are.
use Rattle.std.specs.Prelude.{◌≡◌, ◌≢◌, ◌⊎◌, ◌≤◌, ◌+◌, ℕ, List, [], ◌∷◌, ◌++◌, length, take, drop, get_or, Option, Some}
use Rattle.std.specs.Prelude.{None, Bool, true, false}
use Rattle.lrs_disk.specs.Disk.{written, Cut}
use Rattle.std.specs.List.{AllByRecursion}
use Rattle.lrs_journal.specs.Store.{store, body, IsPayload, IsEnd}
use Rattle.lrs_journal.specs.Builder.{shut_store}
use Rattle.lrs_journal.specs.Replay.{HasReadTo}
use Rattle.lrs_journal.specs.declared.sizes.Format.{Format}
use Rattle.lrs_journal.specs.declared.sizes.TheConstants.{FRAME_HEAD, HEADER, LEAST_BYTES, MOST_BYTES}

-- a read of the disk gives these bytes
abbrev pub GivesBytes : {D : Type 0} → (D → Option (List ℕ)) → D → List ℕ → Type 0
GivesBytes told disk bytes = told disk ≡ Some bytes

-- one of the old images up to this offset, and after it anything
abbrev pub KeepsUpTo : ℕ → (List ℕ → Type 0) → List ℕ → Type 0
KeepsUpTo offset old c = (d : List ℕ) × old d × (take offset c ≡ take offset d)

-- one of the old images, but for the byte at this offset
abbrev pub IsAtGate : ℕ → (List ℕ → Type 0) → List ℕ → Type 0
IsAtGate offset old c =
    (d : List ℕ) × old d × (take offset c ≡ take offset d) × (drop (offset + 1) c ≡ drop (offset + 1) d)

-- one of the old images, cut at this offset or after it, or up to this offset and with at most one byte after
abbrev pub IsCutBack : ℕ → (List ℕ → Type 0) → List ℕ → Type 0
IsCutBack offset old c = (d : List ℕ) × old d × (take offset c ≡ take offset d) × (offset ≤ length c)
    × ((take (length c) d ≡ c) ⊎ (length c ≤ offset + 1))

-- the old one up to this offset, and there a 0
abbrev pub IsClosed : ℕ → (List ℕ → Type 0) → List ℕ → Type 0
IsClosed offset old c = (d : List ℕ) × old d × (take offset c ≡ take offset d) × (rest : List ℕ)
    × (drop offset c ≡ 0 ∷ rest)

-- the frames of these payloads, and a closed gate
abbrev pub AtRest : ℕ → List (List ℕ) → List ℕ → Type 0
AtRest limit payloads bytes = (rest : List ℕ) × (bytes ≡ store limit payloads ++ 0 ∷ rest)

-- the same with one more whole frame, whose gate may be anything
abbrev pub InDoubt : ℕ → List (List ℕ) → List ℕ → List ℕ → Type 0
InDoubt limit payloads payload bytes = (gate : ℕ) × (rest : List ℕ)
    × (bytes ≡ store limit payloads ++ gate ∷ body (length payloads) payload ++ 0 ∷ rest)

-- the offset of the first gate after these payloads
pub record IsEndOffset (limit offset : ℕ) (payloads : List (List ℕ)) : Type 0 where
  pub least : LEAST_BYTES ≤ limit
  pub most : limit ≤ MOST_BYTES
  pub sizes : AllByRecursion IsPayload payloads
  pub behind : offset ≡ length (store limit payloads)

-- without doubt: each of the images stands for these payloads, with a closed gate at the end
pub record IsSettled (image : List ℕ → Type 0) (limit end number : ℕ) (payloads : List (List ℕ)) : Type 0 where
  pub placed : IsEndOffset limit end payloads
  pub each : (c : List ℕ) → image c → AtRest limit payloads c
  pub counts : number ≡ length payloads

-- in doubt: each of the images stands for these payloads, or for them and one more
pub record IsDoubtful (image : List ℕ → Type 0) (limit end number : ℕ) (payloads : List (List ℕ))
    (payload : List ℕ) : Type 0 where
  pub placed : IsEndOffset limit end payloads
  pub each : (c : List ℕ) → image c → InDoubt limit payloads payload c
  pub counts : number ≡ length payloads + 1

-- where the end gate stands: at the gate, or after the frame there whose payload of this length is in doubt
abbrev pub end_behind : ℕ → Option ℕ → ℕ
end_behind gate None = gate
end_behind gate (Some size) = gate + (FRAME_HEAD + size)

-- what the fields say of the disk, if it tells what it holds; the doubt is the length of the doubtful payload
abbrev pub FitsFields : Option ℕ → (List ℕ → Type 0) → ℕ → ℕ → ℕ → Type 0
FitsFields None image limit end number = (payloads : List (List ℕ)) × IsSettled image limit end number payloads
FitsFields (Some size) image limit end number = (payloads : List (List ℕ)) × (payload : List ℕ)
    × (size ≡ length payload) × IsDoubtful image limit end number payloads payload

-- a doubtful frame is counted, and fits
abbrev pub FitsDoubt : Option ℕ → ℕ → ℕ → ℕ → Type 0
FitsDoubt None limit end number = number ≤ end
FitsDoubt (Some size) limit end number = (1 ≤ number) × (number ≤ end + 1) × (end + (FRAME_HEAD + 1) + size ≤ limit)

-- What is true of a journal's fields.
pub record IsSound (told : Option (List ℕ)) (image : List ℕ → Type 0) (limit end number : ℕ)
    (doubt : Option ℕ) : Type 0 where
  pub least : LEAST_BYTES ≤ limit
  pub most : limit ≤ MOST_BYTES
  pub fits : FitsDoubt doubt limit end number
  pub tied : (b : List ℕ) → told ≡ Some b → FitsFields doubt image limit end number

-- What is true of a replay's fields.
pub record IsReplay (f : Format) (told : Option (List ℕ)) (image : List ℕ → Type 0) (limit size offset number : ℕ)
    (ended : Bool) : Type 0 where
  pub least : LEAST_BYTES ≤ limit
  pub most : limit ≤ MOST_BYTES
  pub few : number ≤ offset
  pub synced : (c : List ℕ) → image c → told ≡ Some c
  pub size_is : (b : List ℕ) → told ≡ Some b → size ≡ length b
  pub tied : (b : List ℕ) → told ≡ Some b → (payloads : List (List ℕ)) × HasReadTo f b limit offset number payloads
  pub ends : (b : List ℕ) → told ≡ Some b → ended ≡ true → IsEnd (drop offset b)

-- at most one byte, or a first one that isn't 1
abbrev pub IsBlank : List ℕ → Type 0
IsBlank c = (length c ≤ 1) ⊎ (get_or c 0 0 ≢ 1)

abbrev pub IsShort : List ℕ → Type 0
IsShort c = length c ≤ 1

-- a closed gate in front
abbrev pub IsShut : List ℕ → Type 0
IsShut c = take 1 c ≡ 0 ∷ []

-- one of the old images, or its first part with the first byte
abbrev pub IsCutShort : (List ℕ → Type 0) → List ℕ → Type 0
IsCutShort old c = (d : List ℕ) × old d × Cut 1 d c

-- one of the old images, but for the byte at this offset; or what was given, with a 0 there, but for the first byte
abbrev pub IsUnlocking : ℕ → (List ℕ → Type 0) → (List ℕ → Type 0) → List ℕ → Type 0
IsUnlocking offset given old c = IsAtGate offset old c
    ⊎ ((b : List ℕ) × given b × (drop 1 c ≡ drop 1 (written b offset (0 ∷ []))))

-- The bytes of a disk whose header is shut, after frames of these payloads.
pub record IsLaid (bytes : List ℕ) (limit end number : ℕ) (payloads : List (List ℕ)) : Type 0 where
  pub placed : IsEndOffset limit end payloads
  pub counts : number ≡ length payloads
  pub is : bytes ≡ shut_store limit payloads

-- What is true of a builder's fields.
pub record IsBuilder (told : Option (List ℕ)) (image : List ℕ → Type 0) (limit end number : ℕ)
    (broken : Bool) : Type 0 where
  pub least : LEAST_BYTES ≤ limit
  pub most : limit ≤ MOST_BYTES
  pub few : number ≤ end
  pub far : HEADER ≤ end
  pub fits : end + 1 ≤ limit
  pub shut : (c : List ℕ) → image c → IsShut c
  pub tied : broken ≡ false → (b : List ℕ) → told ≡ Some b
      → (payloads : List (List ℕ)) × IsLaid b limit end number payloads
