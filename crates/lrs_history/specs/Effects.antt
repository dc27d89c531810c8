-- What an entry changes in the parts of a store: in statements, providers and documents, or at the desk.
use Rattle.std.specs.Prelude.{ℕ, List, [], ◌∷◌, ◌++◌, length, Option, Some, None}
use Rattle.cmi5_course.specs.Courses.{course_of}
use Rattle.cmi5_course.specs.declared.launch.Launch.{Launch}
use Rattle.lrs_agents.specs.declared.identifiers.Ifi.{Ifi}
use Rattle.lrs_command.specs.declared.who.Who.{Who}
use Rattle.lrs_history.specs.Enrolments.{enrolled}
use Rattle.lrs_history.specs.Launches.{target}
use Rattle.lrs_history.specs.Made.{owed_made}
use Rattle.lrs_history.specs.Whose.{authority_of, launch_of}
use Rattle.lrs_state.specs.Courses.{index_meant}
use Rattle.lrs_state.specs.Launches.{key_under, index_of_session}
use Rattle.lrs_state.specs.Providers.{unchanged_providers}
use Rattle.lrs_state.specs.State.{State, no_change}
use Rattle.lrs_state.specs.declared.acceptance.Acceptance.TheVariants as acceptance
use Rattle.lrs_state.specs.declared.effect.Effect.{Effect}
use Rattle.lrs_record.specs.declared.entry.Entry.{Entry}
use Rattle.lrs_record.specs.declared.entry.Write.{Write}
use Rattle.lrs_record.specs.declared.entry.How.{How}
use Rattle.lrs_record.specs.declared.entry.How.TheVariants as how
use Rattle.lrs_record.specs.declared.entry.Write.TheVariants.{Found, Provider, Put, Post, Drop, Enrol, Fetch}
use Rattle.lrs_record.specs.declared.entry.Write.TheVariants.{Waive, Abandon, Sweep}
use Rattle.lrs_record.specs.declared.entry.Write.TheVariants as write
use Rattle.xapi_docs.specs.Changes.{document_of, posted}
use Rattle.xapi_docs.specs.Documents.{document_under, keys_in}
use Rattle.xapi_docs.specs.declared.changes.DocumentsChange.TheVariants.{Dropped, Written}
use Rattle.xapi_docs.specs.declared.documents.Document.{Document}
use Rattle.xapi_keys.specs.declared.state_key.StateKey.{StateKey}
use Rattle.xapi_pages.specs.XapiIndexBatches.{WithId, ids_under, kept_by, supply_after, with_ids}
use Rattle.lrs_ids.specs.Ids.{Supply}
use Rattle.xapi_pages.specs.XapiStatementStatements.{new_ones}
use Rattle.xapi_pages.specs.XapiStatementStored.{StoredStatement}
use Rattle.lrs_history.specs.Occasions.{Occasion, occasion}
use Rattle.lrs_history.specs.DeskEffects.{taking, enrolling, waiving, abandoning_one, sweeping, launching, fetching}

-- ---- statements

-- the statements of a write, with the ids under which they go
abbrev pub with_ids_in : Occasion → Write → List WithId
with_ids_in at (Put id statement) = record { id = id; tree = statement } ∷ []
with_ids_in at (Post statements) = with_ids at.supply statements
with_ids_in at other = []

-- statements as they are kept: with the moment of their entry and its caller's authority
abbrev pub brought : State → Who → ℕ → List WithId → List StoredStatement
brought st by moment ns = kept_by moment (authority_of st by) ns

-- those of them that aren't held
abbrev pub new_by : State → Who → ℕ → List WithId → List StoredStatement
new_by st by moment ns = new_ones st.statements (brought st by moment ns)

-- what the store says of its own behind new statements of a session: what is owed to its registration then
abbrev pub owed_in_session : State → Supply → ℕ → List StoredStatement → Option Launch → List StoredStatement
owed_in_session st supply moment [] launch = []
owed_in_session st supply moment (s ∷ ss) None = []
owed_in_session st supply moment (s ∷ ss) (Some launch) =
    owed_made st launch.session supply moment (s ∷ ss) (enrolled st launch.registration)

-- new statements, and behind them what the store says of its own
abbrev pub with_owed : State → Occasion → Supply → List StoredStatement → List StoredStatement
with_owed st at supply new = new ++ owed_in_session st supply at.moment new (launch_of st at.by)

-- Those that aren't held are new. The ids of this supply are left.
abbrev pub keeping : State → Occasion → Supply → List WithId → Effect
keeping st at supply ns =
    record (no_change at.moment) { statements = with_owed st at supply (new_by st at.by at.moment ns) }

-- Of statements that come together all ids are told.
abbrev pub keeping_all : State → Occasion → Supply → List WithId → Effect
keeping_all st at supply ns = record (keeping st at supply ns) { acceptance = acceptance.Ids (ids_under ns) }

-- ---- providers

-- a provider of that name with that token; its index and its token are told
abbrev pub making : State → ℕ → List ℕ → List ℕ → Effect
making st moment name token = record (no_change moment) {
  providers = record unchanged_providers { new = Some (record { name = name; token = token }) };
  acceptance = acceptance.Provider (length st.providers) token;
}

-- ---- documents

-- a document is written under a key: it replaces the one that is held, or is merged into it
abbrev pub document_by : How → List ℕ → List ℕ → ℕ → Option Document → Document
document_by how.Put media bytes moment held = document_of media bytes moment
document_by how.Post media bytes moment held = posted media bytes moment held

abbrev pub writing : State → ℕ → How → StateKey → List ℕ → List ℕ → Effect
writing st moment h key media bytes = record (no_change moment) {
  documents = Written key (document_by h media bytes moment (document_under key st.documents));
}

-- the documents that are held of an activity, an agent and a registration go, or the one of that state id
abbrev pub dropping : State → ℕ → List ℕ → Ifi → Option (List ℕ) → Option (List ℕ) → Effect
dropping st moment activity agent registration state = record (no_change moment) {
  documents = Dropped (keys_in activity agent registration state st.documents);
}

-- ---- all of them

abbrev pub effect_of : State → Occasion → Write → Effect
effect_of st at (Found admin base) =
    record (no_change at.moment) { founding = Some (record { admin = admin; base = base }) }
effect_of st at (Provider name) = making st at.moment name at.token
effect_of st at (Put id statement) = keeping st at at.supply (with_ids_in at (Put id statement))
effect_of st at (Post statements) =
    keeping_all st at (supply_after at.supply statements) (with_ids_in at (Post statements))
effect_of st at (write.State h key media bytes) = writing st at.moment h key media bytes
effect_of st at (Drop activity agent registration state) = dropping st at.moment activity agent registration state
effect_of st at (write.Course tree) = taking st at.moment (course_of tree)
effect_of st at (Enrol course actor edition) =
    enrolling st at actor (index_meant course edition st.courses st.editions)
effect_of st at (write.Launch registration unit mode return_url) =
    launching st at mode return_url (target st registration unit)
effect_of st at (Fetch key) = fetching st at (key_under key st.keys)
effect_of st at (Waive registration unit reason) = waiving st at reason (target st registration unit)
effect_of st at (Abandon session) = abandoning_one st at (index_of_session session st.launches)
effect_of st at (Sweep idle) = sweeping st at idle

abbrev pub effect : State → Entry → Effect
effect st e = effect_of st (occasion st e) e.write
