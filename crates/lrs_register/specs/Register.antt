-- A list whose items are found by key.
use Rattle.std.specs.Prelude.{◌≡◌, ◌≤◌, ℕ, Bool, false, List, [], ◌∷◌, ◌++◌, if◌then◌else◌, position, Option, Some}
use Rattle.std.specs.Prelude.{None}
use Rattle.std.specs.BTreeMap.{is_at}
use Rattle.std.specs.declared.cmp.Ordering.{Ordering}
use Rattle.lrs_register.specs.Slots.{HasSlot, index_of}

-- What is seen of a register: its items, the slots by key, and for how many items more there is room in the list.
pub record Registered (K T : Type 0) : Type 0 where
  pub held : List T
  pub slots : List (K × Option ℕ)
  pub spare : ℕ

-- the index of the first item under a key, where a test tells which keys are the same
abbrev pub index_under : {K T : Type 0} → (K → K → Bool) → (T → K) → K → List T → Option ℕ
index_under same key_of key held = position (λ x. same (key_of x) key) held

-- each key has the index of the first item under it
pub record IsIndexed {K T : Type 0} (cmp : K → K → Ordering) (key_of : T → K) (slots : List (K × Option ℕ))
    (held : List T) : Type 0 where
  pub found : (k : K) → index_of cmp slots k ≡ index_under (λ key. is_at (cmp key)) key_of k held

-- ---- room

-- there is room for an item
abbrev pub HasRoomFor : {K T : Type 0} → (K → K → Ordering) → (T → K) → Registered K T → T → Type 0
HasRoomFor cmp key_of r item = (1 ≤ r.spare) × HasSlot cmp r.slots (key_of item)

-- there is room for an item that may come
abbrev pub HasRoomForNew : {K T : Type 0} → (K → K → Ordering) → (T → K) → Registered K T → Option T → Type 0
HasRoomForNew cmp key_of r None = Unit {0}
HasRoomForNew cmp key_of r (Some item) = HasRoomFor cmp key_of r item

-- the key of an item that may come
abbrev pub is_key_of : {K T : Type 0} → (K → K → Ordering) → (T → K) → Option T → K → Bool
is_key_of cmp key_of None key = false
is_key_of cmp key_of (Some item) key = is_at (cmp (key_of item)) key

-- ---- changes

-- a list, and one more after it if there is one
abbrev pub with_new : {A : Type 0} → List A → Option A → List A
with_new xs None = xs
with_new xs (Some x) = xs ++ x ∷ []

-- an item in the place of the first that passes, if there is one
abbrev pub with_first : {A : Type 0} → (A → Bool) → A → List A → List A
with_first p y [] = []
with_first p y (x ∷ xs) = if p x then y ∷ xs else x ∷ with_first p y xs
