-- What a launch brings: the unit that it is of, its session, its statement and its data.
use Rattle.std.specs.Prelude.{ℕ, List, [], ◌∷◌, Option, Some, option_and_then, option_map, slice_get, codes}
use Rattle.cmi5_course.specs.Courses.{Course, index_of_unit, unit_at}
use Rattle.cmi5_course.specs.Units.{AssignableUnit}
use Rattle.cmi5_course.specs.declared.launch.Launch.{Launch}
use Rattle.cmi5_course.specs.declared.launch.Mode.{Mode}
use Rattle.cmi5_verdict.specs.Cmi5LaunchActivities.{activity_text}
use Rattle.cmi5_verdict.specs.Cmi5LaunchAddresses.{launch_text}
use Rattle.cmi5_verdict.specs.Cmi5LaunchData.{launch_data}
use Rattle.cmi5_verdict.specs.Cmi5LaunchMade.{launched_json}
use Rattle.cmi5_verdict.specs.Cmi5LaunchNames.{launch_data_state}
use Rattle.lrs_json.specs.Trees.{tree_of}
use Rattle.lrs_state.specs.Registrations.{registration_under}
use Rattle.lrs_state.specs.State.{State}
use Rattle.lrs_state.specs.declared.founding.Founding.{Founding}
use Rattle.lrs_state.specs.declared.registrations.HeldRegistration.{HeldRegistration}
use Rattle.xapi_docs.specs.Changes.{document_of}
use Rattle.xapi_docs.specs.declared.documents.Document.{Document}
use Rattle.xapi_format.specs.declared.authority.Authority.TheVariants.{Desk}
use Rattle.xapi_pages.specs.XapiIndexBatches.{kept_by}
use Rattle.xapi_keys.specs.declared.state_key.StateKey.{StateKey}
use Rattle.xapi_pages.specs.XapiStatementStored.{StoredStatement}

-- ---- the unit

-- a unit of a registration's edition, and its index among the nodes
pub record Target : Type 0 where
  -- the address that the store's own names begin with
  pub base : List ℕ
  pub registration : HeldRegistration
  pub index : ℕ
  -- the id that its publisher gave it
  pub publisher : List ℕ
  pub unit : AssignableUnit

-- the unit of that index
abbrev pub target_at : List ℕ → HeldRegistration → List ℕ → Course → ℕ → Option Target
target_at base r publisher course index = option_map
    (λ unit. record { base = base; registration = r; index = index; publisher = publisher; unit = unit })
    (unit_at index course)

-- the unit of that id
abbrev pub target_in : List ℕ → HeldRegistration → List ℕ → Course → Option Target
target_in base r publisher course =
    option_and_then (target_at base r publisher course) (index_of_unit publisher course)

abbrev pub target_of : State → List ℕ → HeldRegistration → Founding → Option Target
target_of st publisher r founding =
    option_and_then (λ e. target_in founding.base r publisher e.course) (slice_get st.editions r.edition)

abbrev pub target_under : State → List ℕ → List ℕ → Founding → Option Target
target_under st registration publisher founding =
    option_and_then (λ r. target_of st publisher r founding) (registration_under registration st.registrations)

-- the unit of that id in the edition of that registration, if both are there and the store is founded
abbrev pub target : State → List ℕ → List ℕ → Option Target
target st registration publisher = option_and_then (target_under st registration publisher) st.founding

-- ---- its names

-- the id under which the store knows the unit
abbrev pub activity_at : Target → List ℕ
activity_at t = activity_text t.base t.registration.edition t.index

-- ---- what comes of it

abbrev pub launch_at : Target → Mode → List ℕ → Launch
launch_at t mode session = record {
  session = session;
  registration = t.registration.id;
  actor = t.registration.actor.ifi;
  activity = activity_at t;
  publisher = t.publisher;
  mode = mode;
  mastery = t.unit.mastery_text;
}

-- the statement that the store makes of it, under that id (cmi5 Quartz, section 9.3.1)
abbrev pub launched_at : Target → Mode → List ℕ → List ℕ → ℕ → List StoredStatement
launched_at t mode session id moment = kept_by moment (Some Desk) (record {
  id = id;
  tree = tree_of (launched_json mode t.unit t.registration.actor (activity_at t) t.publisher t.registration.id
      session);
} ∷ [])

-- where its data is kept (cmi5 Quartz, section 10.2)
abbrev pub data_key : Target → StateKey
data_key t = record {
  activity = activity_at t;
  agent = t.registration.actor.ifi;
  registration = Some t.registration.id;
  state = launch_data_state;
}

abbrev pub data_at : Target → Mode → Option (List ℕ) → List ℕ → ℕ → Document
data_at t mode return_url session moment =
    document_of (codes "application/json") (launch_data t.unit t.publisher session mode return_url) moment

-- where the learner is sent (cmi5 Quartz, section 8.1)
abbrev pub address_at : Target → List ℕ → List ℕ
address_at t key =
    launch_text t.unit.url t.base key t.registration.actor t.registration.id (activity_at t)
