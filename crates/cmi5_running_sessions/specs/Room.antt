-- Slots that are made ahead for what statements say, so that taking them in takes no memory.
use Rattle.std.specs.Prelude.{◌≡◌, ◌⊎◌, ℕ, ◌&&◌, ◌||◌, Bool, true, List, IsTrue, is_some}
use Rattle.std.specs.List.{AllByRecursion, list_any}
use Rattle.std.specs.Map.{lookup}
use Rattle.cmi5_session.specs.Cmi5LaunchNames.{completed, passed}
use Rattle.cmi5_running_sessions.specs.Kept.{SeenSessions, is_same, nothing_reached, nothing_said, own_of, reached_of}
use Rattle.cmi5_running_sessions.specs.Kept.{units_of}
use Rattle.cmi5_session.specs.Own.{is_of_session, says}
use Rattle.lrs_json.specs.View.{view}
use Rattle.cmi5_session.specs.XapiStatementStatements.{is_that_id}
use Rattle.cmi5_session.specs.XapiStatementStatement.{activity_of, registration_of}
use Rattle.cmi5_session.specs.XapiStatementStored.{StoredStatement}

-- ---- what has a slot

abbrev pub HasOwnSlot : List ℕ → SeenSessions → Type 0
HasOwnSlot id s = IsTrue (is_some (lookup (is_same id) s.own))

abbrev pub HasUnitSlot : List ℕ → List ℕ → SeenSessions → Type 0
HasUnitSlot registration activity s =
    IsTrue (is_some (lookup (is_same activity) (units_of registration s.reached)))

-- something is kept of the registration's units
abbrev pub HasUnitsSlot : List ℕ → SeenSessions → Type 0
HasUnitsSlot registration s = IsTrue (is_some (lookup (is_same registration) s.reached))

-- the registration has a slot only where a unit in it has one
abbrev pub IsFilled : List ℕ → SeenSessions → Type 0
IsFilled registration s = HasUnitsSlot registration s → (activity : List ℕ) × HasUnitSlot registration activity s

-- ---- what a statement needs

-- it is one of the session's own
abbrev pub needs_own : List ℕ → StoredStatement → Bool
needs_own id s = is_of_session id s.authority

-- it says of that activity, in that registration, that it was completed or passed
abbrev pub needs_unit : List ℕ → List ℕ → StoredStatement → Bool
needs_unit registration activity s =
    is_that_id registration (registration_of (view s.received)) && is_that_id activity (activity_of (view s.received))
    && (says completed (view s.received) || says passed (view s.received))

-- all that it says has a slot
pub record HasSlotsFor (s : SeenSessions) (statement : StoredStatement) : Type 0 where
  pub own : (id : List ℕ) → needs_own id statement ≡ true → HasOwnSlot id s
  pub unit : (registration activity : List ℕ) → needs_unit registration activity statement ≡ true
      → HasUnitSlot registration activity s

abbrev pub HasSlotsForEach : SeenSessions → List StoredStatement → Type 0
HasSlotsForEach s statements = AllByRecursion (HasSlotsFor s) statements

-- ---- what changes

-- the same is kept
pub record KeepsSame (old new : SeenSessions) : Type 0 where
  pub own : (id : List ℕ) → own_of id new ≡ own_of id old
  pub reached : (registration activity : List ℕ)
      → reached_of registration activity new ≡ reached_of registration activity old

-- what had a slot has one still
pub record KeepsSlots (old new : SeenSessions) : Type 0 where
  pub own : (id : List ℕ) → HasOwnSlot id old → HasOwnSlot id new
  pub unit : (registration activity : List ℕ) → HasUnitSlot registration activity old
      → HasUnitSlot registration activity new

-- nothing has a slot that had none
pub record AddsNoSlots (old new : SeenSessions) : Type 0 where
  pub own : (id : List ℕ) → HasOwnSlot id new → HasOwnSlot id old
  pub unit : (registration activity : List ℕ) → HasUnitSlot registration activity new
      → HasUnitSlot registration activity old
  pub units : (registration : List ℕ) → HasUnitsSlot registration new → HasUnitsSlot registration old

-- The same is kept, and slots were made for what these statements need, and for nothing else.
pub record MakesSlots (statements : List StoredStatement) (old new : SeenSessions) : Type 0 where
  pub same : KeepsSame old new
  pub own : (id : List ℕ) → HasOwnSlot id new
      → HasOwnSlot id old ⊎ (list_any (needs_own id) statements ≡ true)
  pub unit : (registration activity : List ℕ) → HasUnitSlot registration activity new
      → HasUnitSlot registration activity old ⊎ (list_any (needs_unit registration activity) statements ≡ true)
  pub units : (registration : List ℕ) → HasUnitsSlot registration new → HasUnitsSlot registration old
      ⊎ ((activity : List ℕ) × (list_any (needs_unit registration activity) statements ≡ true))
  pub filled : (registration : List ℕ) → IsFilled registration old → IsFilled registration new

-- The same is kept. The slots of what these statements need were taken back if nothing is kept there, and none was
-- made. With the last unit goes the registration.
pub record TakesSlotsBack (statements : List StoredStatement) (old new : SeenSessions) : Type 0 where
  pub same : KeepsSame old new
  pub fewer : AddsNoSlots old new
  pub filled : (registration : List ℕ) → IsFilled registration old → IsFilled registration new
  pub own : (id : List ℕ) → list_any (needs_own id) statements ≡ true → own_of id new ≡ nothing_said
      → HasOwnSlot id new → ⊥
  pub unit : (registration activity : List ℕ) → list_any (needs_unit registration activity) statements ≡ true
      → reached_of registration activity new ≡ nothing_reached → HasUnitSlot registration activity new → ⊥
