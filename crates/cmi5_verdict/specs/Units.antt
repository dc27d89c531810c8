-- Which units of a course a learner has met (cmi5 Quartz, section 13.1.4, `moveOn`): by the statements of one
-- registration that name the unit.
use Rattle.std.specs.Prelude.{ℕ, ◌&&◌, ◌||◌, Bool, true, false, not, List}
use Rattle.std.specs.List.{list_any}
use Rattle.cmi5_course.specs.declared.unit.MoveOn.{MoveOn}
use Rattle.cmi5_course.specs.declared.unit.MoveOn.TheVariants as move_on
use Rattle.cmi5_session.specs.Cmi5LaunchNames.{completed, passed, waived}
use Rattle.cmi5_session.specs.Counting.{counts}
use Rattle.lrs_json.specs.View.{view}
use Rattle.cmi5_session.specs.XapiStatementStatements.{is_voided}
use Rattle.cmi5_session.specs.XapiStatementStored.{StoredStatement}

-- It counts among these. A voided one does so only where voided ones are asked for, too.
abbrev pub counts_among : Bool → List StoredStatement → List ℕ → List ℕ → List ℕ → StoredStatement → Bool
counts_among even_voided statements registration activity verb s =
    counts registration activity verb (view s.received) && (even_voided || not (is_voided statements s))

-- one of them counts that isn't voided
abbrev pub stands : List StoredStatement → List ℕ → List ℕ → List ℕ → Bool
stands statements registration activity verb =
    list_any (counts_among false statements registration activity verb) statements

-- one of them counts, voided or not
abbrev pub was_said : List StoredStatement → List ℕ → List ℕ → List ℕ → Bool
was_said statements registration activity verb =
    list_any (counts_among true statements registration activity verb) statements

-- what a unit asks for, by whether it was completed and whether it was passed
abbrev pub moves_on : MoveOn → Bool → Bool → Bool
moves_on move_on.NotApplicable is_completed is_passed = true
moves_on move_on.Passed is_completed is_passed = is_passed
moves_on move_on.Completed is_completed is_passed = is_completed
moves_on move_on.CompletedAndPassed is_completed is_passed = is_completed && is_passed
moves_on move_on.CompletedOrPassed is_completed is_passed = is_completed || is_passed

-- A unit is met where it was waived, or where what it asks for was reached.
abbrev pub is_met : List StoredStatement → List ℕ → List ℕ → MoveOn → Bool
is_met statements registration activity asked =
    stands statements registration activity waived
    || moves_on asked (stands statements registration activity completed)
    (stands statements registration activity passed)
