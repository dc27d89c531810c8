-- What is counted of the nodes of one registration's course, and what it stands for.
use Rattle.std.specs.Prelude.{◌≡◌, ℕ, ◌&&◌, Bool, true, not, List, length, nat_lt}
use Rattle.std.specs.Prelude.{slice_get, Some}
use Rattle.std.specs.List.{count_by, list_any}
use Rattle.std.specs.Option.{option_map_or}
use Rattle.cmi5_verdict.specs.Cmi5LaunchNames.{completed, passed, satisfied, waived}
use Rattle.cmi5_running_verdicts.specs.Holding.{failing_under}
use Rattle.cmi5_running_verdicts.specs.declared.tally.Tally.{Tally}
use Rattle.cmi5_verdict.specs.Cmi5SessionCounting.{counts}
use Rattle.cmi5_verdict.specs.Cmi5SessionMarked.{MarkedStatement}
use Rattle.cmi5_verdict.specs.Nodes.{SeenEnrolment, activity_of_node, unit_in}
use Rattle.cmi5_verdict.specs.Said.{meets}
use Rattle.cmi5_verdict.specs.declared.said.Said.{Said}
use Rattle.lrs_json.specs.View.{view}

-- ---- what marked statements say of a node

-- it says so of the node, voided or not
abbrev pub says_of_node : SeenEnrolment → List ℕ → ℕ → MarkedStatement → Bool
says_of_node e verb index m = counts e.registration (activity_of_node e index) verb (view m.statement.received)

-- it says so, and isn't voided
abbrev pub says_still : SeenEnrolment → List ℕ → ℕ → MarkedStatement → Bool
says_still e verb index m = says_of_node e verb index m && not m.voided

-- how many say so that aren't voided
abbrev pub how_many_say : SeenEnrolment → List MarkedStatement → List ℕ → ℕ → ℕ
how_many_say e those verb index = count_by (says_still e verb index) those

-- what they say of it
abbrev pub said_by_all : SeenEnrolment → List MarkedStatement → ℕ → Said
said_by_all e those index = record {
  waived = nat_lt 0 (how_many_say e those waived index);
  completed = nat_lt 0 (how_many_say e those completed index);
  passed = nat_lt 0 (how_many_say e those passed index);
  satisfied = list_any (says_of_node e satisfied index) those;
}

-- the node is no unit, or one that is met
abbrev pub is_met_by_all : SeenEnrolment → List MarkedStatement → ℕ → Bool
is_met_by_all e those index = option_map_or
    (λ unit. meets unit.move_on (said_by_all e those index)) (unit_in e.nodes index) true

-- how many units under it aren't met, itself among them
abbrev pub unmet_under : SeenEnrolment → List MarkedStatement → ℕ → ℕ
unmet_under e those holder = failing_under e.nodes (is_met_by_all e those) holder

-- ---- what is counted

-- what it says of its node
abbrev pub said_in_tally : Tally → Said
said_in_tally t = record {
  waived = nat_lt 0 t.waived;
  completed = nat_lt 0 t.completed;
  passed = nat_lt 0 t.passed;
  satisfied = t.satisfied;
}

-- the tally of a node
pub record IsTally (e : SeenEnrolment) (those : List MarkedStatement) (index : ℕ) (t : Tally) : Type 0 where
  pub waived : t.waived ≡ how_many_say e those waived index
  pub completed : t.completed ≡ how_many_say e those completed index
  pub passed : t.passed ≡ how_many_say e those passed index
  pub satisfied : t.satisfied ≡ list_any (says_of_node e satisfied index) those
  pub unmet : t.unmet ≡ unmet_under e those index

-- one for each node, in the order of the text
pub record AreTallies (e : SeenEnrolment) (those : List MarkedStatement) (tallies : List Tally) : Type 0 where
  pub long : length tallies ≡ length e.nodes
  pub each : (index : ℕ) → (t : Tally) → slice_get tallies index ≡ Some t → IsTally e those index t
