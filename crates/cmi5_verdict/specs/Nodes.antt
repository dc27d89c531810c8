-- Which nodes of a course are satisfied in a registration, and of which of them that is still to be said (cmi5 Quartz,
-- section 9.3.9). Nodes are found by their numbers, and the course itself is node 0.
use Rattle.std.specs.Prelude.{ℕ, zero, suc, ◌==◌, ◌&&◌, ◌++◌, Bool, true, not, List, [], ◌∷◌, length, filter}
use Rattle.std.specs.Prelude.{map, Option, Some, None, is_some, option_and_then, slice_get}
use Rattle.std.specs.List.{list_all, list_any, range_with_len}
use Rattle.std.specs.Option.{option_map_or}
use Rattle.cmi5_course.specs.Units.{AssignableUnit}
use Rattle.cmi5_course.specs.declared.course.Node.{Node}
use Rattle.cmi5_session.specs.Cmi5LaunchActivities.{activity_text}
use Rattle.cmi5_session.specs.Cmi5LaunchNames.{satisfied}
use Rattle.cmi5_verdict.specs.Units.{is_met, was_said}
use Rattle.cmi5_verdict.specs.declared.enrolment.Enrolment.{Enrolment}
use Rattle.cmi5_session.specs.XapiStatementStored.{StoredStatement}

-- A registration in a course, and the names under which the store knows both.
pub record SeenEnrolment : Type 0 where
  pub registration : List ℕ
  -- the address that the store's own names begin with
  pub base : List ℕ
  -- the number of the course
  pub course : ℕ
  pub nodes : List Node

-- what is seen of the one in memory
abbrev pub seen : Enrolment → SeenEnrolment
seen e = record { registration = e.registration.now; base = e.base.now; course = e.course; nodes = e.nodes.now }

-- ---- nodes

-- their numbers
abbrev pub indices : List Node → List ℕ
indices nodes = range_with_len 0 (length nodes)

-- the node that holds that one
abbrev pub parent_of : List Node → ℕ → Option ℕ
parent_of nodes index = option_and_then (λ node. node.parent) (slice_get nodes index)

-- a node and those that hold it, from the inner to the outer, with at most so many steps
abbrev pub outward : List Node → ℕ → Option ℕ → List ℕ
outward nodes zero index = []
outward nodes (suc steps) None = []
outward nodes (suc steps) (Some index) = index ∷ outward nodes steps (parent_of nodes index)

-- all of them: there are no more than there are nodes
abbrev pub holders : List Node → ℕ → List ℕ
holders nodes index = outward nodes (length nodes) (Some index)

-- the node is that one, or stands below it
abbrev pub is_under : List Node → ℕ → ℕ → Bool
is_under nodes holder index = list_any (λ p. p == holder) (holders nodes index)

-- the numbers of that node and of those below it
abbrev pub under : List Node → ℕ → List ℕ
under nodes holder = filter (is_under nodes holder) (indices nodes)

-- how deep it stands: the course itself counts 1
abbrev pub depth_of : List Node → ℕ → ℕ
depth_of nodes index = length (holders nodes index)

-- what a unit has, if the node is one
abbrev pub unit_in : List Node → ℕ → Option AssignableUnit
unit_in nodes index = option_and_then (λ node. node.unit) (slice_get nodes index)

abbrev pub is_unit_in : List Node → ℕ → Bool
is_unit_in nodes index = is_some (unit_in nodes index)

-- ---- verdicts

-- the id under which the store knows it
abbrev pub activity_of_node : SeenEnrolment → ℕ → List ℕ
activity_of_node e index = activity_text e.base e.course index

-- the node is no unit, or a unit that is met
abbrev pub is_met_at : SeenEnrolment → List StoredStatement → ℕ → Bool
is_met_at e statements index = option_map_or
    (λ unit. is_met statements e.registration (activity_of_node e index) unit.move_on) (unit_in e.nodes index) true

-- Every unit under it is met, or it is itself one that is.
abbrev pub is_satisfied : SeenEnrolment → List StoredStatement → ℕ → Bool
is_satisfied e statements index = list_all (is_met_at e statements) (under e.nodes index)

-- that of each node, in the order of the text
abbrev pub verdicts : SeenEnrolment → List StoredStatement → List Bool
verdicts e statements = map (is_satisfied e statements) (indices e.nodes)

-- ---- what is still to be said

-- A block or the course that is satisfied, of which this was never said. A voided statement said it, too.
abbrev pub is_owed : SeenEnrolment → List StoredStatement → ℕ → Bool
is_owed e statements index =
    not (is_unit_in e.nodes index) && is_satisfied e statements index
    && not (was_said statements e.registration (activity_of_node e index) satisfied)

abbrev pub at_depth : List Node → List ℕ → ℕ → List ℕ
at_depth nodes indices depth = filter (λ index. depth_of nodes index == depth) indices

-- those of a depth, then those that stand less deep
abbrev pub from_depth : List Node → List ℕ → ℕ → List ℕ
from_depth nodes indices zero = []
from_depth nodes indices (suc depth) = at_depth nodes indices (suc depth) ++ from_depth nodes indices depth

-- Deeper ones first; those of one depth keep their order. None stands deeper than there are nodes.
abbrev pub deeper_first : List Node → List ℕ → List ℕ
deeper_first nodes indices = from_depth nodes indices (length nodes)

-- those of which it is to be said, in the order in which it is said
abbrev pub owed : SeenEnrolment → List StoredStatement → List ℕ
owed e statements = deeper_first e.nodes (filter (is_owed e statements) (indices e.nodes))
