-- What the rules on a session look at, besides the statement that comes.
use Rattle.std.specs.Prelude.{ℕ, ◌&&◌, ◌||◌, Bool, not, List}
use Rattle.std.specs.List.{list_any}
use Rattle.cmi5_course.specs.declared.launch.Launch.{Launch}
use Rattle.cmi5_launch.specs.Names.{completed, passed}
use Rattle.cmi5_session.specs.Counting.{counts}
use Rattle.cmi5_session.specs.Phases.{phase_behind, phase_of}
use Rattle.cmi5_session.specs.declared.phase.Phase.{Phase}
use Rattle.cmi5_session.specs.declared.view.SessionView.{SessionView}
use Rattle.lrs_json.specs.Json.{Json}
use Rattle.lrs_json.specs.View.{view}
use Rattle.cmi5_launch.specs.XapiStatementStatements.{is_voided}
use Rattle.cmi5_launch.specs.XapiStatementStored.{StoredStatement}

pub record SeenSession : Type 0 where
  pub launch : Launch
  pub phase : Phase
  -- a statement that isn't voided says that the unit was completed in the registration
  pub completed : Bool
  -- the same of passed
  pub passed : Bool

-- what is seen of the one in memory
abbrev pub seen : SessionView → SeenSession
seen v = record { launch = v.launch.now; phase = v.phase; completed = v.completed; passed = v.passed }

-- it counts for the launched unit and its registration, and is voided by none of these
abbrev pub counts_still : Launch → List ℕ → List StoredStatement → StoredStatement → Bool
counts_still launch verb statements s =
    counts launch.registration launch.activity verb (view s.received) && not (is_voided statements s)

abbrev pub has_counting : Launch → List ℕ → List StoredStatement → Bool
has_counting launch verb statements = list_any (counts_still launch verb statements) statements

-- The session of a launch after these statements. Its token was fetched or not, and it was abandoned or not.
abbrev pub view_of : Launch → Bool → Bool → List StoredStatement → SeenSession
view_of launch fetched abandoned statements = record {
  launch = launch;
  phase = phase_of launch.session fetched abandoned statements;
  completed = has_counting launch completed statements;
  passed = has_counting launch passed statements;
}

-- The same behind one statement more, which is the session's own and voids none. It can be voided already.
abbrev pub view_behind : SeenSession → Json → Bool → SeenSession
view_behind v j voided = record {
  launch = v.launch;
  phase = phase_behind v.phase j;
  completed = v.completed || (counts v.launch.registration v.launch.activity completed j && not voided);
  passed = v.passed || (counts v.launch.registration v.launch.activity passed j && not voided);
}
