-- Units and registrations, as the parts lend them.
use Rattle.std.specs.Prelude.{◌≡◌, ◌<◌, length, Some}
use Rattle.lrs_history.specs.Enrolments.{Enrolled, enrolled_as}
use Rattle.lrs_history.specs.Launches.{Target}
use Rattle.lrs_made.specs.declared.enrolments.LentEnrolled.{LentEnrolled}
use Rattle.lrs_made.specs.declared.targets.LentTarget.{LentTarget}
use Rattle.lrs_history.specs.LrsStateState.{State}

-- ---- registrations

-- what is seen of a registration that is lent, with its edition
abbrev pub seen_enrolled : LentEnrolled → Enrolled
seen_enrolled e = record { base = e.base.now; registration = e.registration.now; edition = e.edition.now }

-- The edition is that of the registration in a store of that state, with its address.
abbrev pub IsLentBy : State → LentEnrolled → Type 0
IsLentBy st e = enrolled_as st e.registration.now ≡ Some (seen_enrolled e)

-- ---- units

-- what is seen of a unit that is lent
abbrev pub seen_target : LentTarget → Target
seen_target t = record {
  base = t.base.now;
  registration = t.registration.now;
  index = t.index;
  publisher = t.publisher.now;
  unit = t.unit.now;
}

-- its registration with its edition
abbrev pub enrolled_of : LentTarget → Enrolled
enrolled_of t = record { base = t.base.now; registration = t.registration.now; edition = t.edition.now }

-- The same of a unit: the edition is that of its registration, and has a node of that number.
pub record IsTargetOf (st : State) (t : LentTarget) : Type 0 where
  pub enrolled : enrolled_as st t.registration.now ≡ Some (enrolled_of t)
  pub index : t.index < length t.edition.now.course.nodes
