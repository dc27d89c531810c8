-- What is kept of sessions from one statement to the next, and what it stands for: what each session's own statements
-- said, and how many statements say in a registration that a unit was completed, and that it was passed.
use Rattle.std.specs.Prelude.{◌≡◌, ℕ, ◌&&◌, Bool, false, not, List, [], ◌∷◌, Option, Some, None, if◌then◌else◌}
use Rattle.std.specs.BTreeMap.{is_at}
use Rattle.std.specs.Cmp.Lexicographic.{slice_cmp}
use Rattle.std.specs.List.{count_by}
use Rattle.std.specs.Map.{lookup}
use Rattle.std.specs.Option.{option_map_or, option_or}
use Rattle.std.specs.Ordering.{nat_cmp}
use Rattle.cmi5_session.specs.Cmi5LaunchNames.{completed, passed, terminated}
use Rattle.cmi5_running_sessions.specs.declared.own.OwnSaid.{OwnSaid}
use Rattle.cmi5_running_sessions.specs.declared.units.Reached.{Reached}
use Rattle.cmi5_session.specs.Counting.{counts}
use Rattle.cmi5_session.specs.Marked.{MarkedStatement, statements_of}
use Rattle.cmi5_session.specs.Moments.{began_at}
use Rattle.cmi5_session.specs.Own.{has_own, is_of_session}
use Rattle.lrs_json.specs.View.{view}
use Rattle.cmi5_session.specs.XapiStatementStored.{StoredStatement}

-- What is seen of it: what was said by session, and what was reached by registration and activity.
pub record SeenSessions : Type 0 where
  pub own : List (List ℕ × OwnSaid)
  pub reached : List (List ℕ × List (List ℕ × Reached))

-- both are the same id or text
abbrev pub is_same : List ℕ → List ℕ → Bool
is_same a b = is_at (slice_cmp nat_cmp a) b

-- ---- what a session said

abbrev pub nothing_said : OwnSaid
nothing_said = record { began = None; ended = false; last = None }

-- what is kept of the session of that id
abbrev pub own_of : List ℕ → SeenSessions → OwnSaid
own_of id s = option_map_or (λ said. said) (lookup (is_same id) s.own) nothing_said

-- the moment of the last of the session's own statements, if it has one
abbrev pub last_said : List ℕ → List StoredStatement → Option ℕ
last_said id [] = None
last_said id (s ∷ ss) =
    option_or (last_said id ss) (if is_of_session id s.authority then Some s.stored else None)

-- what these say, voided or not
abbrev pub own_said : List ℕ → List StoredStatement → OwnSaid
own_said id statements = record {
  began = began_at id statements;
  ended = has_own id terminated statements;
  last = last_said id statements;
}

-- ---- what was reached in a registration

abbrev pub nothing_reached : Reached
nothing_reached = record { completed = 0; passed = 0 }

-- the units of a registration of which something is kept
abbrev pub units_of : List ℕ → List (List ℕ × List (List ℕ × Reached)) → List (List ℕ × Reached)
units_of registration reached = option_map_or (λ units. units) (lookup (is_same registration) reached) []

abbrev pub unit_of : List ℕ → List (List ℕ × Reached) → Reached
unit_of activity units = option_map_or (λ r. r) (lookup (is_same activity) units) nothing_reached

-- what is kept of an activity in a registration
abbrev pub reached_of : List ℕ → List ℕ → SeenSessions → Reached
reached_of registration activity s = unit_of activity (units_of registration s.reached)

-- it counts, and isn't voided
abbrev pub counts_still_for : List ℕ → List ℕ → List ℕ → MarkedStatement → Bool
counts_still_for registration activity verb m =
    counts registration activity verb (view m.statement.received) && not m.voided

abbrev pub reached_in : List ℕ → List ℕ → List MarkedStatement → Reached
reached_in registration activity those = record {
  completed = count_by (counts_still_for registration activity completed) those;
  passed = count_by (counts_still_for registration activity passed) those;
}

-- ---- what it stands for

-- It stands for these statements: of each session what its own said, of each activity in each registration how many
-- count.
pub record SaidStandsFor (s : SeenSessions) (those : List MarkedStatement) : Type 0 where
  pub own : (id : List ℕ) → own_of id s ≡ own_said id (statements_of those)
  pub reached : (registration activity : List ℕ)
      → reached_of registration activity s ≡ reached_in registration activity those
