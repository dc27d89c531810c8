-- How what is counted of the nodes of a course changes, by one statement more or one that is voided.
use Rattle.std.specs.Prelude.{ℕ, ◌+◌, ◌-◌, ◌^◌, ◌==◌, ◌&&◌, ◌||◌, Bool, true, false, not, List, get_or, min}
use Rattle.std.specs.Prelude.{if◌then◌else◌}
use Rattle.std.specs.Option.{option_map_or}
use Rattle.cmi5_course.specs.declared.course.Node.{Node}
use Rattle.cmi5_running_verdicts.specs.Holding.{failing_under}
use Rattle.cmi5_running_verdicts.specs.Tallies.{said_in_tally}
use Rattle.cmi5_running_verdicts.specs.declared.tally.Tally.{Tally}
use Rattle.cmi5_verdict.specs.Cmi5SessionCounting.{one_less, one_more}
use Rattle.cmi5_verdict.specs.Cmi5SessionOwn.{is_cmi5_defined}
use Rattle.cmi5_verdict.specs.Nodes.{SeenEnrolment, activity_of_node, is_under, unit_in}
use Rattle.cmi5_verdict.specs.Said.{meets}
use Rattle.cmi5_verdict.specs.declared.said.Said.{Said}
use Rattle.lrs_json.specs.Json.{Json}
use Rattle.cmi5_verdict.specs.XapiStatementStatements.{is_that_id}
use Rattle.cmi5_verdict.specs.XapiStatementStatement.{activity_of, registration_of}

-- ---- tallies

-- so many units under it aren't met, and nothing was said of it
abbrev pub only_unmet : ℕ → Tally
only_unmet unmet = record { waived = 0; completed = 0; passed = 0; satisfied = false; unmet = unmet }

abbrev pub untold : Tally
untold = only_unmet 0

-- that of a node, where each has one
abbrev pub tally_of : List Tally → ℕ → Tally
tally_of tallies index = get_or tallies index untold

-- the same of the node itself, with so many units under it that aren't met
abbrev pub with_unmet : ℕ → Tally → Tally
with_unmet unmet t = record {
  waived = t.waived;
  completed = t.completed;
  passed = t.passed;
  satisfied = t.satisfied;
  unmet = unmet;
}

-- ---- what is said of a node

-- the statement names the registration, cmi5 defines what it means, and it is about the node
abbrev pub is_about : SeenEnrolment → ℕ → Json → Bool
is_about e index j =
    is_that_id e.registration (registration_of j) && is_cmi5_defined j
    && is_that_id (activity_of_node e index) (activity_of j)

-- a statement more says this of the node
unfoldable pub added : Said → Tally → Tally
added told t = record {
  waived = one_more t.waived told.waived;
  completed = one_more t.completed told.completed;
  passed = one_more t.passed told.passed;
  satisfied = t.satisfied || told.satisfied;
  unmet = t.unmet;
}

-- A statement that said this is voided. That the node is satisfied was said all the same.
unfoldable pub removed : Said → Tally → Tally
removed told t = record {
  waived = one_less t.waived told.waived;
  completed = one_less t.completed told.completed;
  passed = one_less t.passed told.passed;
  satisfied = t.satisfied;
  unmet = t.unmet;
}

-- ---- what follows for those that hold it

-- the node is no unit, or is met by what its tally says
abbrev pub is_met_with : List Node → ℕ → Tally → Bool
is_met_with nodes index t =
    option_map_or (λ unit. meets unit.move_on (said_in_tally t)) (unit_in nodes index) true

-- one of the units is met that wasn't, or isn't that was
abbrev pub next_unmet : Bool → ℕ → ℕ
next_unmet is_met unmet = if is_met then unmet - 1 else min (unmet + 1) (2 ^ 64 - 1)

abbrev pub moved : Bool → Tally → Tally
moved is_met t = with_unmet (next_unmet is_met t.unmet) t

abbrev pub moved_if : Bool → Bool → Tally → Tally
moved_if holds is_met t = if holds then moved is_met t else t

abbrev pub differ : Bool → Bool → Bool
differ first second = if first then not second else second

-- that of each node, once that is the tally of one of them
abbrev pub settled : List Node → ℕ → Tally → List Tally → ℕ → Tally
settled nodes index t tallies holder =
    moved_if (differ (is_met_with nodes index (tally_of tallies index)) (is_met_with nodes index t)
    && is_under nodes holder index) (is_met_with nodes index t)
    (if index == holder then t else tally_of tallies holder)

-- ---- before anything is said

-- the node is a unit that isn't met by nothing
abbrev pub is_unmet_untold : List Node → ℕ → Bool
is_unmet_untold nodes index = not (is_met_with nodes index untold)

-- it is one, and stands under that holder
abbrev pub fails_untold : List Node → ℕ → ℕ → Bool
fails_untold nodes holder index = is_under nodes holder index && is_unmet_untold nodes index

abbrev pub fresh_tally : List Node → ℕ → Tally
fresh_tally nodes holder = only_unmet (failing_under nodes (λ index. is_met_with nodes index untold) holder)
