-- What is changed in a list whose items are found by key.
use Rattle.std.specs.Prelude.{Bool, ◌||◌, List, Option, Some, None, is_some}
use Rattle.std.specs.declared.cmp.Ordering.{Ordering}
use Rattle.lrs_register.specs.Register.{HasRoomForNew, Registered, with_first, with_new}
use Rattle.lrs_register.specs.declared.change.Change.{Change}

abbrev pub unchanged : {A : Type 0} → Change A
unchanged = record { new = None; replaced = None }

abbrev pub changes : {A : Type 0} → Change A → Bool
changes change = is_some change.new || is_some change.replaced

-- an item in the place of the first that is under its key, if there is one
abbrev pub with_replaced : {A : Type 0} → (A → A → Bool) → List A → Option A → List A
with_replaced under xs None = xs
with_replaced under xs (Some item) = with_first (λ x. under x item) item xs

-- The list after a change: first the new one comes. The test tells whether an item stands under another one's key.
abbrev pub with_change : {A : Type 0} → (A → A → Bool) → List A → Change A → List A
with_change under xs change = with_replaced under (with_new xs change.new) change.replaced

-- there is room for what comes
abbrev pub HasRoomForChange : {K T : Type 0} → (K → K → Ordering) → (T → K) → Registered K T → Change T → Type 0
HasRoomForChange cmp key_of r change = HasRoomForNew cmp key_of r change.new
