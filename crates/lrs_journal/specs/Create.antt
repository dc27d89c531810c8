-- When a store is made on a disk.
use Rattle.std.specs.Prelude.{◌≡◌, ◌≢◌, ◌<◌, ℕ, List, [], ◌∷◌, length, get_or, take, drop, Option}
use Rattle.lrs_disk.specs.Disk.{LeavesOnly}
use Rattle.lrs_journal.specs.Builder.{IsBuilt}
use Rattle.lrs_journal.specs.Store.{magic, need_at}
use Rattle.lrs_journal.specs.declared.create.CreateRefused.{CreateRefused}
use Rattle.lrs_journal.specs.declared.create.CreateRefused.TheVariants as refused
use Rattle.lrs_journal.specs.declared.sizes.TheConstants.{HEADER}

-- an open gate and the magic
abbrev pub IsStore : List ℕ → Type 0
IsStore bytes = take 8 bytes ≡ 1 ∷ magic

-- more than one byte, the first not 0, and no magic after it
abbrev pub IsForeign : List ℕ → Type 0
IsForeign bytes = (1 < length bytes) × (get_or bytes 0 0 ≢ 0) × (take 7 (drop 1 bytes) ≢ magic)

-- a store may be made here
abbrev pub IsOpenTo : List ℕ → Type 0
IsOpenTo bytes = (IsStore bytes → ⊥) × (IsForeign bytes → ⊥)

-- what the bytes are if no store is made on them
abbrev pub IsCreateRefused : List ℕ → CreateRefused → Type 0
IsCreateRefused bytes refused.AlreadyStore = IsStore bytes
IsCreateRefused bytes refused.Foreign = IsForeign bytes
IsCreateRefused bytes (refused.Full need limit) = IsOpenTo bytes
IsCreateRefused bytes refused.Failed = Unit {0}

-- what a store of this one frame needs
abbrev pub need_of_first : List ℕ → ℕ
need_of_first first = need_at HEADER first

-- no open header, or the one frame
abbrev pub IsMade : ℕ → List ℕ → List ℕ → Type 0
IsMade limit first bytes = IsBuilt limit (first ∷ []) bytes

-- nothing was written
abbrev pub IsUntouched : {D : Type 0} → (D → Option (List ℕ)) → (D → List ℕ → Type 0) → (D → ℕ)
    → (D → ℕ → List ℕ → Type 0) → D → D → Type 0
IsUntouched told image time image_since old new =
    (told new ≡ told old) × LeavesOnly time image_since old new (image old)
