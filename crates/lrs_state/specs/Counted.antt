-- Registers that stay so short that 32 bits number their items, and lists that are found by keys of bytes.
use Rattle.std.specs.Prelude.{◌+◌, ◌<◌, ◌^◌, ℕ, Bool, List, length, find, Option}
use Rattle.std.specs.Str.{bytes_eq}
use Rattle.std.specs.declared.cmp.Ordering.{Ordering}
use Rattle.lrs_register.specs.Changes.{HasRoomForChange, with_change}
use Rattle.lrs_register.specs.Slots.{AddsNoSlot, MakesSlots, TakesSlotsBack}
use Rattle.lrs_register.specs.Register as register
use Rattle.lrs_register.specs.Register.{Registered, is_key_of}
use Rattle.lrs_register.specs.declared.change.Change.{Change}

-- ---- lists

-- the first item under a key
abbrev pub first_under : {A : Type 0} → (A → List ℕ) → List ℕ → List A → Option A
first_under key_of key xs = find (λ x. bytes_eq (key_of x) key) xs

-- the index of that item
abbrev pub index_under : {A : Type 0} → (A → List ℕ) → List ℕ → List A → Option ℕ
index_under key_of key xs = register.index_under bytes_eq key_of key xs

abbrev pub has_key_of : {A : Type 0} → (A → List ℕ) → A → A → Bool
has_key_of key_of x y = bytes_eq (key_of x) (key_of y)

-- the list after a change
abbrev pub list_after : {A : Type 0} → (A → List ℕ) → List A → Change A → List A
list_after key_of xs change = with_change (has_key_of key_of) xs change

-- ---- room

-- for an item more, which can still be counted
pub record HasRoomToCount {K T : Type 0} (cmp : K → K → Ordering) (key_of : T → K) (r : Registered K T)
    (change : Change T) : Type 0 where
  pub room : HasRoomForChange cmp key_of r change
  pub few : length r.held + 1 < 2 ^ 32

-- a slot was made for the key of an item that is to come
abbrev pub MakesSlotFor : {K T : Type 0} → (K → K → Ordering) → (T → K) → Change T → Registered K T
    → Registered K T → Type 0
MakesSlotFor cmp key_of change old new = MakesSlots cmp (λ k. is_key_of cmp key_of change.new k) old.slots new.slots

-- and taken back, where none came
abbrev pub TakesSlotBackFor : {K T : Type 0} → (K → K → Ordering) → (T → K) → Change T → Registered K T
    → Registered K T → Type 0
TakesSlotBackFor cmp key_of change old new =
    TakesSlotsBack cmp (λ k. is_key_of cmp key_of change.new k) old.slots new.slots

-- it has no slot that the old one hadn't
abbrev pub AddsNone : {K T : Type 0} → (K → K → Ordering) → Registered K T → Registered K T → Type 0
AddsNone cmp old new = AddsNoSlot cmp old.slots new.slots
