-- Maps from an id or a text, and what one statement changes in them.
use Rattle.std.specs.Prelude.{◌≡◌, ◌⊎◌, ◌==◌, ℕ, ◌&&◌, ◌||◌, Bool, true, false, not, List, is_none}
use Rattle.std.specs.Prelude.{IsTrue, is_some, Option, Some, None, if◌then◌else◌}
use Rattle.std.specs.Map.{lookup}
use Rattle.std.specs.Option.{option_map_or, option_or}
use Rattle.cmi5_session.specs.Cmi5LaunchNames.{completed, initialized, passed, terminated}
use Rattle.cmi5_running_sessions.specs.Kept.{is_same, nothing_reached, units_of}
use Rattle.cmi5_running_sessions.specs.declared.own.OwnSaid.{OwnSaid}
use Rattle.cmi5_running_sessions.specs.declared.units.Reached.{Reached}
use Rattle.cmi5_session.specs.Counting.{one_less, one_more}
use Rattle.cmi5_session.specs.Own.{says}
use Rattle.cmi5_session.specs.declared.phase.Phase.{Phase}
use Rattle.cmi5_session.specs.declared.phase.Phase.TheVariants.{Launched, Fetched, Initialized, Terminated, Abandoned}
use Rattle.lrs_json.specs.Json.{Json}
use Rattle.lrs_json.specs.View.{view}
use Rattle.cmi5_session.specs.XapiStatementStored.{StoredStatement}

abbrev pub TextMap : Type 0 → Type 0
TextMap X = List (List ℕ × X)

abbrev pub UnitsByRegistration : Type 0
UnitsByRegistration = TextMap (TextMap Reached)

-- ---- what stands somewhere

-- what is kept in a slot; where there is none, nothing is
abbrev pub kept_in : {X : Type 0} → X → Option X → X
kept_in nothing slot = option_map_or (λ x. x) slot nothing

-- the slot of an activity in a registration
abbrev pub unit_at : List ℕ → List ℕ → UnitsByRegistration → Option Reached
unit_at registration activity reached = lookup (is_same activity) (units_of registration reached)

abbrev pub is_nothing_said : OwnSaid → Bool
is_nothing_said said = is_none said.began && not said.ended && is_none said.last

abbrev pub is_nothing_reached : Reached → Bool
is_nothing_reached r = (r.completed == 0) && (r.passed == 0)

-- there is a slot, and nothing is kept in it
abbrev pub is_empty_slot : {X : Type 0} → (X → Bool) → Option X → Bool
is_empty_slot is_nothing slot = option_map_or is_nothing slot false

-- ---- what becomes of a slot

-- it stays, or is made where it is needed
abbrev pub IsMade : {X : Type 0} → X → Bool → Option X → Option X → Type 0
IsMade nothing needed old new = (new ≡ old) ⊎ ((needed ≡ true) × (new ≡ option_or old (Some nothing)))

-- it is taken back where nothing is kept in it
abbrev pub taken_back : {X : Type 0} → (X → Bool) → Option X → Option X
taken_back is_nothing None = None
taken_back is_nothing (Some x) = if is_nothing x then None else Some x

-- ---- what becomes of a map

-- the slot of each key stays, or is made where the key passes
abbrev pub MakesAt : {X : Type 0} → X → (List ℕ → Bool) → TextMap X → TextMap X → Type 0
MakesAt nothing passes old new =
    (k : List ℕ) → IsMade nothing (passes k) (lookup (is_same k) old) (lookup (is_same k) new)

-- the slot of each key that passes becomes another by a function, and no other
abbrev pub ChangesAt : {X : Type 0} → (List ℕ → Bool) → (Option X → Option X) → TextMap X → TextMap X → Type 0
ChangesAt passes change old new = (k : List ℕ) → lookup (is_same k) new
    ≡ (if passes k then change (lookup (is_same k) old) else lookup (is_same k) old)

-- the same of the slots of units
abbrev pub MakesUnits : (List ℕ → List ℕ → Bool) → UnitsByRegistration → UnitsByRegistration → Type 0
MakesUnits passes old new =
    (r a : List ℕ) → IsMade nothing_reached (passes r a) (unit_at r a old) (unit_at r a new)

abbrev pub ChangesUnits : (List ℕ → List ℕ → Bool) → (Option Reached → Option Reached) → UnitsByRegistration
    → UnitsByRegistration → Type 0
ChangesUnits passes change old new = (r a : List ℕ) → unit_at r a new
    ≡ (if passes r a then change (unit_at r a old) else unit_at r a old)

-- a registration is kept only where it was, or where a unit in it has a slot
abbrev pub AddsFilled : UnitsByRegistration → UnitsByRegistration → Type 0
AddsFilled old new = (r : List ℕ) → IsTrue (is_some (lookup (is_same r) new))
    → IsTrue (is_some (lookup (is_same r) old)) ⊎ ((a : List ℕ) × IsTrue (is_some (unit_at r a new)))

-- no registration is kept that wasn't
abbrev pub AddsNoRegistrations : UnitsByRegistration → UnitsByRegistration → Type 0
AddsNoRegistrations old new = (r : List ℕ) → IsTrue (is_some (lookup (is_same r) new))
    → IsTrue (is_some (lookup (is_same r) old))

-- the registration is kept only where a unit in it has a slot
abbrev pub HoldsUnits : List ℕ → UnitsByRegistration → Type 0
HoldsUnits r reached = IsTrue (is_some (lookup (is_same r) reached))
    → (a : List ℕ) × IsTrue (is_some (unit_at r a reached))

-- so it is still
abbrev pub StaysFilled : UnitsByRegistration → UnitsByRegistration → Type 0
StaysFilled old new = (r : List ℕ) → HoldsUnits r old → HoldsUnits r new

-- that unit
abbrev pub is_same_unit : List ℕ → List ℕ → List ℕ → List ℕ → Bool
is_same_unit registration activity r a = is_same registration r && is_same activity a

-- ---- what one statement changes

-- what a session said behind one statement more of its own
abbrev pub own_behind : StoredStatement → OwnSaid → OwnSaid
own_behind s said = record {
  began = option_or said.began (if says initialized (view s.received) then Some s.stored else None);
  ended = said.ended || says terminated (view s.received);
  last = Some s.stored;
}

-- what was reached behind one statement more that says so, and without one that did
abbrev pub reached_behind : Json → Reached → Reached
reached_behind j r = record {
  completed = one_more r.completed (says completed j);
  passed = one_more r.passed (says passed j);
}

abbrev pub reached_without : Json → Reached → Reached
reached_without j r = record {
  completed = one_less r.completed (says completed j);
  passed = one_less r.passed (says passed j);
}

-- ---- what follows from what is kept

-- how far the session has come that said that, whose token was fetched or not, and which was abandoned or not
abbrev pub phase_by : OwnSaid → Bool → Bool → Phase
phase_by said fetched abandoned =
    if abandoned then Abandoned
    else (if said.ended then Terminated
    else (if is_some said.began then Initialized
    else (if fetched then Fetched else Launched)))
