-- What the store says of its own: under which ids, and that a unit was waived, or that a block or a course is satisfied
-- (cmi5 Quartz, sections 9.3.7 and 9.3.9).
use Rattle.std.specs.Prelude.{ℕ, List, [], ◌∷◌, Option, Some, None, filter_map, option_map}
use Rattle.cmi5_course.specs.Courses.{node_at}
use Rattle.cmi5_course.specs.declared.course.Node.{Node}
use Rattle.cmi5_course.specs.declared.reason.Reason.{Reason}
use Rattle.cmi5_verdict.specs.Cmi5LaunchMade.{said_satisfied, said_waived, saying_json}
use Rattle.cmi5_verdict.specs.Nodes.{activity_of_node}
use Rattle.lrs_history.specs.Enrolments.{Enrolled, enrolment_of, owed_behind}
use Rattle.lrs_history.specs.Launches.{Target, activity_at}
use Rattle.lrs_ids.specs.Ids.{Supply, rest_of}
use Rattle.lrs_json.specs.Json.{Json}
use Rattle.lrs_json.specs.Trees.{tree_of}
use Rattle.lrs_state.specs.State.{State}
use Rattle.xapi_format.specs.declared.authority.Authority.TheVariants.{Desk}
use Rattle.xapi_pages.specs.XapiIndexBatches.{held_of}
use Rattle.xapi_pages.specs.XapiStatementStored.{StoredStatement}

-- ---- under which ids

-- each under the next id, with the store's own authority
abbrev pub made_under : Supply → ℕ → List Json → List StoredStatement
made_under supply moment [] = []
made_under supply moment (j ∷ js) =
    held_of moment Desk (record { id = supply 0; tree = tree_of j }) ∷ made_under (rest_of supply) moment js

-- what is left of a supply after one id for each of these
abbrev pub left_behind : {A : Type 0} → Supply → List A → Supply
left_behind supply [] = supply
left_behind supply (x ∷ xs) = left_behind (rest_of supply) xs

-- ---- satisfied

-- that a node is satisfied, in that session
abbrev pub satisfied_json : Enrolled → List ℕ → ℕ → Node → Json
satisfied_json e session index node = saying_json (said_satisfied node.kind) e.registration.actor
    (activity_of_node (enrolment_of e) index) node.id e.registration.id session

abbrev pub satisfied_at : Enrolled → List ℕ → ℕ → Option Json
satisfied_at e session index = option_map (satisfied_json e session index) (node_at index e.edition.course)

-- what is to be said behind these new statements, in that session
abbrev pub owed_jsons : State → List ℕ → List StoredStatement → Enrolled → List Json
owed_jsons st session new e = filter_map (satisfied_at e session) (owed_behind st new e)

-- The same as statements. Nothing is owed where there is no such registration.
abbrev pub owed_made : State → List ℕ → Supply → ℕ → List StoredStatement → Option Enrolled → List StoredStatement
owed_made st session supply moment new None = []
owed_made st session supply moment new (Some e) = made_under supply moment (owed_jsons st session new e)

-- ---- waived

abbrev pub waived_json : Target → Reason → List ℕ → Json
waived_json t why session = saying_json (said_waived why) t.registration.actor (activity_at t) t.publisher
    t.registration.id session

abbrev pub waived_at : Target → Reason → List ℕ → Supply → ℕ → List StoredStatement
waived_at t why session supply moment = made_under supply moment (waived_json t why session ∷ [])
