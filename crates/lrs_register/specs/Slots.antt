-- Slots by key, for what is held there: each key that has one, which may be empty yet.
use Rattle.std.specs.Prelude.{◌≡◌, ◌⊎◌, Bool, true, false, List, IsTrue, is_some, is_none, Option, Some, None}
use Rattle.std.specs.Prelude.{option_and_then, if◌then◌else◌}
use Rattle.std.specs.Option.{option_map_or, option_or}
use Rattle.std.specs.BTreeMap.{is_at}
use Rattle.std.specs.Map.{lookup}
use Rattle.std.specs.declared.cmp.Ordering.{Ordering}

-- a slot was made for the key
abbrev pub HasSlot : {K V : Type 0} → (K → K → Ordering) → List (K × Option V) → K → Type 0
HasSlot cmp slots key = IsTrue (is_some (lookup (is_at (cmp key)) slots))

-- what is held in the slot of a key, if it isn't empty yet
abbrev pub index_of : {K V : Type 0} → (K → K → Ordering) → List (K × Option V) → K → Option V
index_of cmp slots key = option_and_then (λ index. index) (lookup (is_at (cmp key)) slots)

-- a slot was made for the key, and is empty yet
abbrev pub is_empty_at : {K V : Type 0} → (K → K → Ordering) → List (K × Option V) → K → Bool
is_empty_at cmp slots key = option_map_or is_none (lookup (is_at (cmp key)) slots) false

-- ---- changes

-- under each key the same is held
abbrev pub SameSlots : {K V : Type 0} → (K → K → Ordering) → List (K × Option V) → List (K × Option V) → Type 0
SameSlots {K} cmp old new = (key : K) → index_of cmp new key ≡ index_of cmp old key

-- the keys for which a slot was made have one still
abbrev pub KeepsSlots : {K V : Type 0} → (K → K → Ordering) → List (K × Option V) → List (K × Option V) → Type 0
KeepsSlots {K} cmp old new = (key : K) → HasSlot cmp old key → HasSlot cmp new key

-- Under each key the same is held; where nothing was and the key equals the filled one, what was put there.
abbrev pub FillsSlot : {K V : Type 0} → (K → K → Ordering) → K → V → List (K × Option V) → List (K × Option V) → Type 0
FillsSlot {K} cmp filled index old new =
    (key : K) → index_of cmp new key ≡ option_or (index_of cmp old key)
    (if is_at (cmp filled) key then Some index else None)

-- ---- slots that are made, and taken back where they stay empty

-- no key has a slot that had none
abbrev pub AddsNoSlot : {K V : Type 0} → (K → K → Ordering) → List (K × Option V) → List (K × Option V) → Type 0
AddsNoSlot {K} cmp old new = (key : K) → HasSlot cmp new key → HasSlot cmp old key

-- no other key has a slot that had none than those that pass
abbrev pub AddsOnly : {K V : Type 0} → (K → K → Ordering) → (K → Bool) → List (K × Option V)
    → List (K × Option V) → Type 0
AddsOnly {K} cmp passes old new = (key : K) → HasSlot cmp new key → HasSlot cmp old key ⊎ (passes key ≡ true)

-- the slot of a key that passes, if it has one, isn't empty
abbrev pub AreFilled : {K V : Type 0} → (K → K → Ordering) → (K → Bool) → List (K × Option V) → Type 0
AreFilled {K} cmp passes slots = (key : K) → passes key ≡ true → HasSlot cmp slots key
    → IsTrue (is_some (index_of cmp slots key))

-- the keys that don't pass and for which a slot was made have one still
abbrev pub KeepsOthers : {K V : Type 0} → (K → K → Ordering) → (K → Bool) → List (K × Option V)
    → List (K × Option V) → Type 0
KeepsOthers {K} cmp passes old new = (key : K) → passes key ≡ false → HasSlot cmp old key → HasSlot cmp new key

-- Nothing but empty slots was added, and only for keys that pass.
pub record MakesSlots {K V : Type 0} (cmp : K → K → Ordering) (passes : K → Bool)
    (old new : List (K × Option V)) : Type 0 where
  pub same : SameSlots cmp old new
  pub only : AddsOnly cmp passes old new

-- The empty slots of the keys that pass were taken back, and no others.
pub record TakesSlotsBack {K V : Type 0} (cmp : K → K → Ordering) (passes : K → Bool)
    (old new : List (K × Option V)) : Type 0 where
  pub same : SameSlots cmp old new
  pub filled : AreFilled cmp passes new
  pub fewer : AddsNoSlot cmp old new
  pub others : KeepsOthers cmp passes old new
