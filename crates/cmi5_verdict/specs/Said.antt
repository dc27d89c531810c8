-- What the statements of a registration say of the nodes of a course.
use Rattle.std.specs.Prelude.{ℕ, ◌&&◌, ◌||◌, Bool, true, false, not, List, get_or}
use Rattle.std.specs.List.{list_any}
use Rattle.std.specs.Str.{bytes_eq}
use Rattle.cmi5_course.specs.declared.unit.MoveOn.{MoveOn}
use Rattle.cmi5_session.specs.Cmi5LaunchNames.{completed, passed, satisfied, waived}
use Rattle.cmi5_verdict.specs.Nodes.{SeenEnrolment, activity_of_node}
use Rattle.cmi5_verdict.specs.Units.{counts_among, moves_on}
use Rattle.cmi5_verdict.specs.declared.said.Said.{Said}
use Rattle.cmi5_session.specs.XapiStatementStored.{StoredStatement}

-- a statement of that verb counts, among all, for the node of that number
abbrev pub counts_for : SeenEnrolment → List StoredStatement → Bool → List ℕ → ℕ → StoredStatement → Bool
counts_for e all even_voided verb index = counts_among even_voided all e.registration (activity_of_node e index) verb

-- nothing
abbrev pub unsaid : Said
unsaid = record { waived = false; completed = false; passed = false; satisfied = false }

-- what one of two says
unfoldable pub either : Said → Said → Said
either a b = record {
  waived = a.waived || b.waived;
  completed = a.completed || b.completed;
  passed = a.passed || b.passed;
  satisfied = a.satisfied || b.satisfied;
}

-- what is said by that verb of the node that is meant
unfoldable pub said_with : List ℕ → Bool → Said
said_with verb is_voided = record {
  waived = bytes_eq verb waived && not is_voided;
  completed = bytes_eq verb completed && not is_voided;
  passed = bytes_eq verb passed && not is_voided;
  satisfied = bytes_eq verb satisfied;
}

-- what one statement says, among all, of the node of that number
unfoldable pub said_by : SeenEnrolment → List StoredStatement → ℕ → StoredStatement → Said
said_by e all index s = record {
  waived = counts_for e all false waived index s;
  completed = counts_for e all false completed index s;
  passed = counts_for e all false passed index s;
  satisfied = counts_for e all true satisfied index s;
}

-- what those say of it, among all
unfoldable pub said_among : SeenEnrolment → List StoredStatement → ℕ → List StoredStatement → Said
said_among e all index those = record {
  waived = list_any (counts_for e all false waived index) those;
  completed = list_any (counts_for e all false completed index) those;
  passed = list_any (counts_for e all false passed index) those;
  satisfied = list_any (counts_for e all true satisfied index) those;
}

-- what all of them say of it
abbrev pub said_in : SeenEnrolment → List StoredStatement → ℕ → Said
said_in e all index = said_among e all index all

-- what was said of it, where that of each node stands in a list
abbrev pub said_of : List Said → ℕ → Said
said_of said index = get_or said index unsaid

-- a unit that asks for this is met by what was said of it
abbrev pub meets : MoveOn → Said → Bool
meets asked said = said.waived || moves_on asked said.completed said.passed
