-- What the desk's entries change: courses and registrations, launches and fetches, waivers and abandonments.
use Rattle.std.specs.Prelude.{ℕ, ◌+◌, Bool, true, false, List, [], ◌∷◌, ◌++◌, length, Option, Some, None, if◌then◌else◌}
use Rattle.cmi5_course.specs.Courses.{Course, course_key, same_course}
use Rattle.cmi5_course.specs.declared.launch.Mode.{Mode}
use Rattle.cmi5_course.specs.declared.reason.Reason.{Reason}
use Rattle.cmi5_verdict.specs.Cmi5LaunchNames.{waived}
use Rattle.cmi5_verdict.specs.Units.{stands}
use Rattle.lrs_agents.specs.declared.agents.Agent.{Agent}
use Rattle.lrs_history.specs.Endings.{abandoned_jsons, idle_ones, is_open, open_of, sessions_at}
use Rattle.lrs_history.specs.Enrolments.{enrolled_as}
use Rattle.lrs_history.specs.Launches.{Target, activity_at, address_at, data_at, data_key, launch_at, launched_at}
use Rattle.lrs_history.specs.Made.{left_behind, made_under, owed_made, waived_at}
use Rattle.lrs_history.specs.Sessions.{is_closed}
use Rattle.lrs_state.specs.Courses.{course_under, newest_edition}
use Rattle.lrs_state.specs.Editions.{SeenEdition}
use Rattle.lrs_state.specs.Sessions.{unchanged_sessions}
use Rattle.lrs_state.specs.State.{State, no_change}
use Rattle.lrs_state.specs.declared.acceptance.Acceptance.{Acceptance}
use Rattle.lrs_state.specs.declared.acceptance.Acceptance.TheVariants as acceptance
use Rattle.lrs_state.specs.declared.courses.HeldCourse.{HeldCourse}
use Rattle.lrs_state.specs.declared.launches.HeldKey.{HeldKey}
use Rattle.lrs_state.specs.declared.registrations.HeldRegistration.{HeldRegistration}
use Rattle.lrs_state.specs.declared.sessions.MadeSession.{MadeSession}
use Rattle.lrs_state.specs.declared.sessions.SessionsChange.{SessionsChange}
use Rattle.lrs_json.specs.Json.{Json}
use Rattle.lrs_register.specs.Changes.{unchanged}
use Rattle.lrs_register.specs.declared.change.Change.{Change}
use Rattle.lrs_state.specs.declared.effect.Effect.{Effect}
use Rattle.xapi_docs.specs.declared.changes.DocumentsChange.TheVariants.{Written}
use Rattle.lrs_ids.specs.Ids.{rest_of}
use Rattle.xapi_pages.specs.XapiStatementStored.{StoredStatement}
use Rattle.lrs_history.specs.Occasions.{Occasion}

-- ---- courses and registrations

-- what comes, and nothing else
abbrev pub coming : {A : Type 0} → A → Change A
coming item = record unchanged { new = Some item }

-- the number of the next edition of an id
abbrev pub next_number : Option HeldCourse → ℕ
next_number None = 1
next_number (Some held) = held.editions + 1

-- the course of an id with one edition more
abbrev pub with_one_more : List ℕ → Option HeldCourse → Change HeldCourse
with_one_more id None = coming (record { id = id; editions = 1 })
with_one_more id (Some held) = record unchanged { replaced = Some (record held { editions = held.editions + 1 }) }

-- the newest edition of its id, if the course is the same
abbrev pub same_newest : Course → Option SeenEdition → Option SeenEdition
same_newest course None = None
same_newest course (Some newest) = if same_course newest.course course then Some newest else None

-- a new edition, unless there is one that is the same
abbrev pub new_edition : Course → Option HeldCourse → Option SeenEdition → Change SeenEdition
new_edition course held None = coming (record { course = course; number = next_number held })
new_edition course held (Some same) = unchanged

abbrev pub new_count : List ℕ → Option HeldCourse → Option SeenEdition → Change HeldCourse
new_count id held None = with_one_more id held
new_count id held (Some same) = unchanged

-- the number of the one or of the other
abbrev pub number_told : Option HeldCourse → Option SeenEdition → ℕ
number_told held None = next_number held
number_told held (Some same) = same.number

abbrev pub taking_as : ℕ → Course → Option HeldCourse → Option SeenEdition → Effect
taking_as moment course held same = record (no_change moment) {
  editions = new_edition course held same;
  courses = new_count (course_key course) held same;
  acceptance = acceptance.Course (course_key course) (number_told held same);
}

-- A course is taken up: it is the newest edition of its id if it is the same, or else a new one, behind those that are
-- held. Its id and its number are told.
abbrev pub taking : State → ℕ → Course → Effect
taking st moment course = taking_as moment course (course_under (course_key course) st.courses)
    (same_newest course (newest_edition (course_key course) st.courses st.editions))

-- the session id that goes with what is said, if anything is
abbrev pub made_session : List ℕ → List StoredStatement → Change MadeSession
made_session session [] = unchanged
made_session session (s ∷ ss) = coming (record { id = session })

-- A registration is made, and the store says which blocks are satisfied at once, and the course if it is. The second id
-- is that of the session in which this is said.
abbrev pub enrolling_with : Occasion → HeldRegistration → List StoredStatement → Effect
enrolling_with at registration owed = record (no_change at.moment) {
  statements = owed;
  registrations = coming registration;
  made_sessions = made_session (at.supply 1) owed;
  acceptance = acceptance.Registration registration.id;
}

abbrev pub enrolling_as : State → Occasion → HeldRegistration → Effect
enrolling_as st at r = enrolling_with at r
    (owed_made st (at.supply 1) (rest_of (rest_of at.supply)) at.moment [] (enrolled_as st r))

-- a learner is enrolled in the edition of that index, if there is one; the registration's id is told
abbrev pub enrolling : State → Occasion → Agent → Option ℕ → Effect
enrolling st at actor None = no_change at.moment
enrolling st at actor (Some edition) =
    enrolling_as st at (record { id = at.supply 0; edition = edition; actor = actor })

-- ---- waivers

-- The unit is waived, and behind it the store says of which nodes it was owed. The first id is that of the session in
-- which all this is said.
abbrev pub waiving_with : Occasion → List StoredStatement → List StoredStatement → Effect
waiving_with at waived owed = record (no_change at.moment) {
  statements = waived ++ owed;
  made_sessions = coming (record { id = at.supply 0 });
}

abbrev pub waiving_as : State → Occasion → Target → List StoredStatement → Effect
waiving_as st at t new = waiving_with at new
    (owed_made st (at.supply 0) (rest_of (rest_of at.supply)) at.moment new (enrolled_as st t.registration))

-- the unit is waived already: a statement stands that says so
abbrev pub is_waived : State → Target → Bool
is_waived st t = stands st.statements t.registration.id (activity_at t) waived

-- a unit is waived once, as long as its statement stands
abbrev pub waiving : State → Occasion → Reason → Option Target → Effect
waiving st at why None = no_change at.moment
waiving st at why (Some t) = if is_waived st t then no_change at.moment
    else waiving_as st at t (waived_at t why (at.supply 0) (rest_of at.supply) at.moment)

-- ---- abandonments

-- the sessions of these launches are abandoned
abbrev pub sessions_abandoned : List ℕ → SessionsChange
sessions_abandoned numbers = record unchanged_sessions { abandoned = numbers }

-- the same, and the store says it of each that had begun
abbrev pub abandoning_each : State → Occasion → List ℕ → Effect
abandoning_each st at numbers = record (no_change at.moment) {
  statements = made_under at.supply at.moment (abandoned_jsons st numbers);
  sessions = sessions_abandoned numbers;
}

-- the session of the launch of that number is abandoned, if it is open
abbrev pub abandoning_one : State → Occasion → Option ℕ → Effect
abandoning_one st at None = no_change at.moment
abandoning_one st at (Some number) =
    if is_open st number then abandoning_each st at (number ∷ []) else no_change at.moment

-- those that are idle for so many seconds; their ids are told
abbrev pub sweeping : State → Occasion → ℕ → Effect
sweeping st at seconds = record (abandoning_each st at (idle_ones st seconds at.moment)) {
  acceptance = acceptance.Swept (sessions_at st (idle_ones st seconds at.moment));
}

-- ---- launches

-- the sessions of these launches are abandoned, and one begins
abbrev pub session_begun : List ℕ → SessionsChange
session_begun numbers = record unchanged_sessions { abandoned = numbers; launched = true }

-- A unit is launched: the store abandons these open sessions of it, and keeps the launch, its statement, its data, and
-- the key that gives its token away. The first id is the session's; those of the abandoned statements come next, then
-- that of its own.
abbrev pub launching_over : State → Occasion → Mode → Option (List ℕ) → Target → List ℕ → List Json → Effect
launching_over st at mode return_url t numbers said = record (no_change at.moment) {
  statements = made_under (rest_of at.supply) at.moment said
      ++ launched_at t mode (at.supply 0) (left_behind (rest_of at.supply) said 0) at.moment;
  documents = Written (data_key t) (data_at t mode return_url (at.supply 0) at.moment);
  launches = coming (launch_at t mode (at.supply 0));
  sessions = session_begun numbers;
  keys = coming (record { key = at.token; launch = length st.launches; fetched = false });
  acceptance = acceptance.Launch (at.supply 0) t.unit.method (address_at t at.token);
}

abbrev pub launching_behind : State → Occasion → Mode → Option (List ℕ) → Target → List ℕ → Effect
launching_behind st at mode return_url t numbers =
    launching_over st at mode return_url t numbers (abandoned_jsons st numbers)

-- A unit is launched, if it is there. The open sessions of it in its registration are abandoned first.
abbrev pub launching : State → Occasion → Mode → Option (List ℕ) → Option Target → Effect
launching st at mode return_url None = no_change at.moment
launching st at mode return_url (Some t) =
    launching_behind st at mode return_url t (open_of st t.registration.id (activity_at t))

-- ---- fetches

abbrev pub telling : ℕ → Acceptance → Effect
telling moment told = record (no_change moment) { acceptance = told }

-- the key's token is given away
abbrev pub giving : Occasion → HeldKey → Effect
giving at key = record (no_change at.moment) {
  sessions = record unchanged_sessions { fetched = Some key.launch };
  keys = record unchanged { replaced = Some (record key { fetched = true }) };
  tokens = coming (record { token = at.token; launch = key.launch });
  acceptance = acceptance.Token at.token;
}

-- A key gives its token once, and none if its session is closed.
abbrev pub fetching : State → Occasion → Option HeldKey → Effect
fetching st at None = no_change at.moment
fetching st at (Some key) =
    if key.fetched then telling at.moment acceptance.KeyUsed
    else (if is_closed st key.launch then telling at.moment acceptance.SessionClosed else giving at key)
