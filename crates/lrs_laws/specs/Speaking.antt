-- What follows from the definitions over every legal history of what sessions say: each speaks in the order of the
-- rules on sessions, none behind its abandonment, and a result counts once.
use Rattle.std.specs.Prelude.{◌≡◌, ◌&&◌, ◌||◌, ℕ, Bool, true, not, IsTrue, List, [], ◌∷◌, ◌++◌, filter, if◌then◌else◌}
use Rattle.cmi5_course.specs.declared.launch.Launch.{Launch}
use Rattle.cmi5_launch.specs.Names.{completed, failed, initialized, passed, terminated}
use Rattle.cmi5_session.specs.Counting.{counts}
use Rattle.cmi5_session.specs.Own.{is_cmi5_defined, is_of_session, says}
use Rattle.cmi5_session.specs.Views.{has_counting}
use Rattle.lrs_command.specs.declared.who.Who.TheVariants as who
use Rattle.lrs_history.specs.History.{state, IsLegal}
use Rattle.lrs_history.specs.Sessions.{is_abandoned}
use Rattle.lrs_json.specs.Json.{Json}
use Rattle.lrs_json.specs.View.{view}
use Rattle.lrs_laws.specs.Laws.{who_in}
use Rattle.lrs_state.specs.State.{is_empty}
use Rattle.lrs_record.specs.declared.entry.Entry.{Entry}
use Rattle.xapi_statement.specs.Stored.{StoredStatement}

-- ---- the order

-- the statements under the authority of the session of that id, in the order in which they are held, voided or not
abbrev pub own_statements : List ℕ → List StoredStatement → List StoredStatement
own_statements session statements = filter (λ (s : StoredStatement). is_of_session session s.authority) statements

-- cmi5 doesn't define it, or it says how the learner did
abbrev pub is_between : Json → Bool
is_between j = not (is_cmi5_defined j) || says completed j || says passed j || says failed j

-- Behind initialized such statements come, and terminated as the last.
abbrev pub goes_on : List StoredStatement → Bool
goes_on [] = true
goes_on (s ∷ ss) =
    if says terminated (view s.received) then is_empty ss else is_between (view s.received) && goes_on ss

-- Initialized comes first, and only there.
abbrev pub are_in_order : List StoredStatement → Bool
are_in_order [] = true
are_in_order (s ∷ ss) = says initialized (view s.received) && goes_on ss

-- A session begins with initialized, says nothing behind terminated, and says between them nothing else that cmi5
-- defines but results.
abbrev pub SessionsSpeakInOrder : Type 0
SessionsSpeakInOrder = (limit : ℕ) (h : List Entry) (session : List ℕ) → IsLegal limit h
    → IsTrue (are_in_order (own_statements session (state h).statements))

-- Behind its abandonment a session says nothing: no entry of a caller that acts in it adds a statement.
abbrev pub AbandonedSessionsAreSilent : Type 0
AbandonedSessionsAreSilent =
    (limit : ℕ) (h more : List Entry) (e : Entry) (k : ℕ) → IsLegal limit ((h ++ more) ++ e ∷ [])
    → is_abandoned (state h) k ≡ true → who_in (h ++ more) e.caller ≡ who.Session k
    → (state ((h ++ more) ++ e ∷ [])).statements ≡ (state (h ++ more)).statements

-- ---- that a unit was completed, and that it was passed

-- It counts for the unit and the registration of a launch, and one of those before it counts still.
abbrev pub counts_again : Launch → List ℕ → List StoredStatement → StoredStatement → Bool
counts_again launch verb before s =
    counts launch.registration launch.activity verb (view s.received) && has_counting launch verb before

-- None of these does, each behind those before it.
abbrev pub count_once : Launch → List ℕ → List StoredStatement → List StoredStatement → Bool
count_once launch verb before [] = true
count_once launch verb before (s ∷ ss) =
    not (counts_again launch verb before s) && count_once launch verb (before ++ s ∷ []) ss

-- In a registration a unit is completed once, and passed once: another such statement is held only behind one that
-- voids the earlier.
abbrev pub ResultsCountOnce : Type 0
ResultsCountOnce = (limit : ℕ) (h : List Entry) (launch : Launch) → IsLegal limit h
    → IsTrue (count_once launch completed [] (state h).statements)
    × IsTrue (count_once launch passed [] (state h).statements)
