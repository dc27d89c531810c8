-- What a store holds, in parts, and what an entry changes in them. Each part has its own change and its own step.
use Rattle.std.specs.Prelude.{ℕ, ◌+◌, ◌&&◌, Bool, not, List, [], Option, None, is_none}
use Rattle.cmi5_course.specs.declared.launch.Launch.{Launch}
use Rattle.lrs_state.specs.Courses.{courses_after, unchanged_courses}
use Rattle.lrs_state.specs.Editions.{SeenEdition, editions_after, unchanged_editions}
use Rattle.lrs_state.specs.Founding.{founding_after}
use Rattle.lrs_state.specs.Launches.{keys_after, launches_after, session_ids, tokens_after, unchanged_keys}
use Rattle.lrs_state.specs.Launches.{unchanged_launches, unchanged_tokens}
use Rattle.lrs_state.specs.Providers.{providers_after, unchanged_providers}
use Rattle.lrs_state.specs.Registrations.{registration_ids, registrations_after, unchanged_registrations}
use Rattle.lrs_state.specs.Sessions.{changes_sessions, made_session_ids, made_sessions_after, sessions_after}
use Rattle.lrs_state.specs.Sessions.{unchanged_made_sessions, unchanged_sessions}
use Rattle.lrs_state.specs.declared.courses.HeldCourse.{HeldCourse}
use Rattle.lrs_state.specs.declared.launches.HeldKey.{HeldKey}
use Rattle.lrs_state.specs.declared.launches.HeldToken.{HeldToken}
use Rattle.lrs_state.specs.declared.sessions.HeldSession.{HeldSession}
use Rattle.lrs_state.specs.declared.sessions.MadeSession.{MadeSession}
use Rattle.lrs_state.specs.declared.providers.HeldProvider.{HeldProvider}
use Rattle.lrs_state.specs.declared.effect.Effect.{Effect}
use Rattle.lrs_state.specs.declared.founding.Founding.{Founding}
use Rattle.lrs_state.specs.declared.registrations.HeldRegistration.{HeldRegistration}
use Rattle.lrs_ids.specs.Ids.{Used, either, those}
pub use Rattle.lrs_time.specs.Reading.{is_empty}
use Rattle.lrs_state.specs.declared.acceptance.Acceptance.TheVariants.{Plain}
use Rattle.lrs_register.specs.Changes.{changes}
use Rattle.xapi_statement.specs.Statements.{add_each, ids_of}
use Rattle.xapi_docs.specs.Changes.{changes_documents, documents_after}
use Rattle.xapi_docs.specs.Documents.{Documents}
use Rattle.xapi_docs.specs.declared.changes.DocumentsChange.TheVariants.{Unchanged}
use Rattle.xapi_statement.specs.Stored.{StoredStatement}

pub record State : Type 0 where
  -- what the store was founded with
  pub founding : Option Founding
  -- the providers in the order in which they were made
  pub providers : List HeldProvider
  -- the statements in the order in which they were accepted, each under an id of its own
  pub statements : List StoredStatement
  -- the documents in the order of their keys, at most one under a key
  pub documents : Documents
  -- the editions of all courses in the order in which they came, each under an id and a number of its own
  pub editions : List SeenEdition
  -- the courses, each under an id of its own, with how many editions there are of it
  pub courses : List HeldCourse
  -- the registrations in the order in which they were made, each under an id of its own
  pub registrations : List HeldRegistration
  -- the launches in their order, each with a session of its own
  pub launches : List Launch
  -- what the desk knows of the sessions of launches, one for each
  pub sessions : List HeldSession
  -- the session ids that enrolments and waivers made
  pub made_sessions : List MadeSession
  -- the keys that launches made, each for one token
  pub keys : List HeldKey
  -- the tokens that were given away for keys
  pub tokens : List HeldToken
  -- how many entries there are
  pub length : ℕ
  -- the last entry's moment
  pub last : ℕ

abbrev pub nothing : State
nothing = record {
  founding = None;
  providers = [];
  statements = [];
  documents = [];
  editions = [];
  courses = [];
  registrations = [];
  launches = [];
  sessions = [];
  made_sessions = [];
  keys = [];
  tokens = [];
  length = 0;
  last = 0;
}

-- an entry of this moment that changes no part
abbrev pub no_change : ℕ → Effect
no_change moment = record {
  founding = None;
  providers = unchanged_providers;
  statements = [];
  documents = Unchanged;
  editions = unchanged_editions;
  courses = unchanged_courses;
  registrations = unchanged_registrations;
  launches = unchanged_launches;
  sessions = unchanged_sessions;
  made_sessions = unchanged_made_sessions;
  keys = unchanged_keys;
  tokens = unchanged_tokens;
  moment = moment;
  acceptance = Plain;
}

-- it changes nothing of what is held of courses and of their learners
abbrev pub changes_no_learning : Effect → Bool
changes_no_learning x =
    not (changes x.editions) && not (changes x.courses) && not (changes x.registrations) && not (changes x.launches)
    && not (changes_sessions x.sessions) && not (changes x.made_sessions) && not (changes x.keys)
    && not (changes x.tokens)

abbrev pub changes_nothing : Effect → Bool
changes_nothing x =
    is_none x.founding && not (changes x.providers) && not (changes_documents x.documents) && is_empty x.statements
    && changes_no_learning x

-- Each part takes its own change in.
abbrev pub apply : State → Effect → State
apply st x = record {
  founding = founding_after st.founding x.founding;
  providers = providers_after st.providers x.providers;
  statements = add_each st.statements x.statements;
  documents = documents_after st.documents x.documents;
  editions = editions_after st.editions x.editions;
  courses = courses_after st.courses x.courses;
  registrations = registrations_after st.registrations x.registrations;
  launches = launches_after st.launches x.launches;
  sessions = sessions_after x.moment st.sessions x.sessions;
  made_sessions = made_sessions_after st.made_sessions x.made_sessions;
  keys = keys_after st.keys x.keys;
  tokens = tokens_after st.tokens x.tokens;
  length = st.length + 1;
  last = x.moment;
}

-- the ids that are used: those of the statements, of the registrations, and of sessions, whether a launch made them or
-- not
abbrev pub used_in : State → Used
used_in st =
    either (those (ids_of st.statements))
    (either (those (registration_ids st.registrations))
    (either (those (session_ids st.launches)) (those (made_session_ids st.made_sessions))))
