-- Why a command is refused: the first reason in a fixed order. It is: the caller (A1, A2), the form (of a provider its
-- name (B2); of a document its agent (P6), its media type (F4) and its length; of statements their number and lengths,
-- then the rules S, then P15 or B9; of a course the rules K; of an enrolment its actor (B3), then the number of its
-- edition (B10); of a sweep its seconds (B6); of `found` 404), an earlier list that there is not (P14), what a session
-- may not do with documents (A3 to A5), what a write speaks of that isn't there (404), what can't be merged into the
-- document that is held (T1, T2), then for each statement in its order another one under its id (409) or what a new one
-- may not be (C1 to C20). What a read asks for that isn't there is told in its answer.
use Rattle.std.specs.Prelude.{ℕ, ◌==◌, ◌&&◌, ◌||◌, nat_lt, Bool, true, false, not, List, [], ◌∷◌, length, Option, Some}
use Rattle.std.specs.Prelude.{None, ◌++◌, is_none, option_and_then, option_map, slice_get, if◌then◌else◌}
use Rattle.std.specs.List.{list_any}
use Rattle.std.specs.Option.{option_or}
use Rattle.std.specs.Str.{bytes_eq}
use Rattle.cmi5_course.specs.Rules as course
use Rattle.cmi5_course.specs.declared.launch.Launch.{Launch}
use Rattle.cmi5_verdict.specs.Cmi5SessionRules.{broken_outside}
use Rattle.cmi5_verdict.specs.Cmi5SessionRules as session
use Rattle.cmi5_verdict.specs.Cmi5SessionViews.{view_of}
use Rattle.lrs_record.specs.declared.entry.Area.{Area}
use Rattle.lrs_record.specs.declared.entry.Area.TheVariants.{Free, Store, Desk}
use Rattle.lrs_command.specs.Areas.{read_area}
use Rattle.lrs_command.specs.declared.command.Read.{Read}
use Rattle.lrs_command.specs.declared.command.Read.TheVariants.{More, Documents}
use Rattle.lrs_record.specs.Writes.{write_area}
use Rattle.lrs_agents.specs.Identifiers.{is_identifier}
use Rattle.lrs_agents.specs.declared.agents.Agent.{Agent}
use Rattle.lrs_agents.specs.declared.identifiers.Ifi.{Ifi}
use Rattle.lrs_media.specs.Media.{is_json}
use Rattle.lrs_rules.specs.Rules.{is_edition_number}
use Rattle.lrs_rules.specs.declared.limits.TheConstants.{LONGEST_IDLE}
use Rattle.lrs_rules.specs.declared.rule.Rule.{Rule}
use Rattle.lrs_rules.specs.declared.rule.Rule.TheVariants as rule
use Rattle.lrs_command.specs.declared.who.Who.{Who}
use Rattle.lrs_command.specs.declared.who.Who.TheVariants as who
use Rattle.lrs_command.specs.declared.command.TheConstants.{CONTENT_TOO_LARGE, NOT_FOUND}
use Rattle.lrs_history.specs.Effects.{new_by, with_ids_in}
use Rattle.lrs_history.specs.Occasions.{Occasion, occasion}
use Rattle.lrs_history.specs.Launches.{target}
use Rattle.lrs_history.specs.Sessions.{is_abandoned, outside, overstepped}
use Rattle.lrs_history.specs.Whose.{launch_of}
use Rattle.lrs_history.specs.declared.admitting.TheConstants.{LONGEST_DOCUMENT, LONGEST_MEDIA, MOST_OF_BATCH}
use Rattle.lrs_json.specs.Json.{Json}
use Rattle.lrs_json.specs.View.{view}
use Rattle.lrs_json.specs.declared.tree.Tree.{Tree}
use Rattle.lrs_state.specs.Courses.{index_meant}
use Rattle.lrs_state.specs.Launches.{key_under, index_of_session}
use Rattle.lrs_state.specs.Learners.{is_learner}
use Rattle.lrs_state.specs.Providers.{is_name}
use Rattle.lrs_state.specs.State.{State}
use Rattle.lrs_record.specs.declared.entry.Entry.{Entry}
use Rattle.lrs_record.specs.declared.entry.Write.{Write}
use Rattle.lrs_record.specs.declared.entry.How.TheVariants as how
use Rattle.lrs_record.specs.declared.entry.Write.TheVariants.{Found, Provider, Put, Post, Drop, Enrol, Fetch}
use Rattle.lrs_record.specs.declared.entry.Write.TheVariants.{Waive, Abandon, Sweep}
use Rattle.lrs_record.specs.declared.entry.Write.TheVariants as write
use Rattle.lrs_replies.specs.declared.answered.Refusal.{Refusal}
use Rattle.lrs_replies.specs.declared.answered.Refusal.TheVariants.{Conflict, Broken, TooLong}
use Rattle.lrs_replies.specs.declared.answered.Refusal.TheVariants.{Forbidden, NotFound, Unauthorized}
use Rattle.xapi_alike.specs.Same.{same}
use Rattle.xapi_docs.specs.Documents.{document_under}
use Rattle.xapi_docs.specs.Merging.{merge}
use Rattle.xapi_docs.specs.declared.documents.Document.{Document}
use Rattle.xapi_keys.specs.declared.wanted.WantedDocuments.{WantedDocuments}
use Rattle.xapi_keys.specs.declared.wanted.WantedDocuments.TheVariants.{One, Ids}
use Rattle.xapi_pages.specs.XapiIndexBatches.{WithId, given_ids}
use Rattle.lrs_ids.specs.Choices.{first_some, when}
use Rattle.lrs_ids.specs.Ids.{are_distinct}
use Rattle.xapi_pages.specs.XapiStatementStatements.{held_under}
use Rattle.xapi_rules.specs.Rules.{broken_rule}
use Rattle.xapi_pages.specs.XapiStatementStored.{StoredStatement}
use Rattle.xapi_pages.specs.XapiStatementStatement.{is_too_long, own_id}

-- ---- the caller

-- Why a caller isn't let in: no caller of the history (A1), or another than an admin at the desk (A2).
abbrev pub barred : Area → Who → Option Refusal
barred Free by = None
barred Store who.Unknown = Some Unauthorized
barred Store who.Admin = None
barred Store (who.Provider k) = None
barred Store (who.Session k) = None
barred Desk who.Unknown = Some Unauthorized
barred Desk who.Admin = None
barred Desk (who.Provider k) = Some (Forbidden (rule.A 2))
barred Desk (who.Session k) = Some (Forbidden (rule.A 2))

-- ---- the form

-- what a form that was refused is told by its status
abbrev pub refused_with : ℕ → Rule → Refusal
refused_with status rule =
    if status == NOT_FOUND then NotFound else (if status == CONTENT_TOO_LARGE then TooLong else Broken rule)

-- a provider's name is out of form: B2
abbrev pub refused_name : List ℕ → Option Refusal
refused_name name = when (not (is_name name)) (Broken (rule.B 2))

-- one of the rules on statements is broken
abbrev pub broken : Option ℕ → Option Refusal
broken number = option_map (λ n. Broken (rule.S n)) number

-- what a statement's own id breaks, if it goes under another: P15
abbrev pub other_id : List ℕ → Option (List ℕ) → Option Refusal
other_id id None = None
other_id id (Some own) = when (not (bytes_eq own id)) (Broken (rule.P 15))

-- Why a statement isn't looked at under an id: its length, then the rules S on statements, then P15.
abbrev pub refused_form : List ℕ → Json → Option Refusal
refused_form id j = first_some (when (is_too_long j) TooLong ∷ broken (broken_rule j) ∷ other_id id (own_id j) ∷ [])

abbrev pub is_too_large : List Tree → Bool
is_too_large trees = nat_lt MOST_OF_BATCH (length trees) || list_any (λ t. is_too_long (view t)) trees

-- the least rule that is broken by the first that breaks one
abbrev pub broken_in : List Tree → Option ℕ
broken_in [] = None
broken_in (t ∷ ts) = option_or (broken_rule (view t)) (broken_in ts)

-- an identifier that is none of its kind: P6
abbrev pub refused_agent : Ifi → Option Refusal
refused_agent agent = when (not (is_identifier agent)) (Broken (rule.P 6))

-- Why a document isn't looked at: the identifier of its agent, then its media type, F4, then its length.
abbrev pub refused_document : Ifi → List ℕ → List ℕ → Option Refusal
refused_document agent media bytes = first_some (
    refused_agent agent
    ∷ when (nat_lt LONGEST_MEDIA (length media)) (Broken (rule.F 4))
    ∷ when (nat_lt LONGEST_DOCUMENT (length bytes)) TooLong
    ∷ [])

-- Why statements aren't looked at: their number and lengths, then the rules S on statements, then that two have one id
-- (B9).
abbrev pub refused_batch : List Tree → Option Refusal
refused_batch trees = first_some (when (is_too_large trees) TooLong ∷ broken (broken_in trees)
    ∷ when (not (are_distinct (given_ids trees))) (Broken (rule.B 9)) ∷ [])

-- the least of the rules on courses that is broken
abbrev pub refused_course : Json → Option Refusal
refused_course j = option_map (λ n. Broken (rule.K n)) (course.broken_rule j)

-- who is enrolled has no account, or one that is none: B3
abbrev pub refused_actor : Agent → Option Refusal
refused_actor actor = when (not (is_learner actor)) (Broken (rule.B 3))

-- the edition that is named can have no such number: B10
abbrev pub refused_edition : Option ℕ → Option Refusal
refused_edition None = None
refused_edition (Some number) = when (not (is_edition_number number)) (Broken (rule.B 10))

-- why nobody is enrolled so: the actor, then the edition
abbrev pub refused_enrolment : Agent → Option ℕ → Option Refusal
refused_enrolment actor edition = option_or (refused_actor actor) (refused_edition edition)

-- more idle seconds than a sweep may ask for: B6
abbrev pub refused_idle : ℕ → Option Refusal
refused_idle idle = when (nat_lt LONGEST_IDLE idle) (Broken (rule.B 6))

-- A `found` command is no command of a founded store.
abbrev pub bad_form : Write → Option Refusal
bad_form (Found admin base) = Some NotFound
bad_form (Provider name) = refused_name name
bad_form (Put id statement) = refused_form id (view statement)
bad_form (Post statements) = refused_batch statements
bad_form (write.State h key media bytes) = refused_document key.agent media bytes
bad_form (Drop activity agent registration state) = refused_agent agent
bad_form (write.Course tree) = refused_course (view tree)
bad_form (Enrol course actor edition) = refused_enrolment actor edition
bad_form (write.Launch registration unit mode return_url) = None
bad_form (Fetch key) = None
bad_form (Waive registration unit reason) = None
bad_form (Abandon session) = None
bad_form (Sweep idle) = refused_idle idle

-- ---- what a session may do with documents

-- why a caller doesn't do that to documents: A3 to A5
abbrev pub barred_document : State → Who → Write → Option Refusal
barred_document st by (write.State h key media bytes) =
    overstepped (launch_of st by) key.agent key.registration (Some key.state)
barred_document st by (Drop activity agent registration state) =
    overstepped (launch_of st by) agent registration state
barred_document st by other = None

-- ---- what isn't there

abbrev pub unless_there : {A : Type 0} → Option A → Option Refusal
unless_there None = Some NotFound
unless_there (Some a) = None

-- What a write speaks of isn't there: the course of an enrolment or the edition of it that it names, the registration
-- or the unit of a launch or a waiver, the key of a fetch, the session that is abandoned.
abbrev pub missing : State → Write → Option Refusal
missing st (Enrol course actor edition) = unless_there (index_meant course edition st.courses st.editions)
missing st (write.Launch registration unit mode return_url) = unless_there (target st registration unit)
missing st (Fetch key) = unless_there (key_under key st.keys)
missing st (Waive registration unit reason) = unless_there (target st registration unit)
missing st (Abandon session) = unless_there (index_of_session session st.launches)
missing st other = None

-- ---- what a document meets in the store

-- Why what is posted isn't merged into the document that is held: one of the two types isn't JSON (T1), or one of the
-- two texts is no JSON object (T2).
abbrev pub unmergeable_with : List ℕ → List ℕ → Option Document → Option Refusal
unmergeable_with media bytes None = None
unmergeable_with media bytes (Some held) = first_some (
    when (not (is_json held.media && is_json media)) (Broken (rule.T 1))
    ∷ when (is_none (merge held.bytes bytes)) (Broken (rule.T 2))
    ∷ [])

abbrev pub unmergeable : State → Write → Option Refusal
unmergeable st (write.State how.Post key media bytes) = unmergeable_with media bytes (document_under key st.documents)
unmergeable st other = None

-- ---- what statements meet in the store

-- The least of the rules on sessions that a new statement of a caller breaks, after those before it: one of C1 and C2,
-- or of C2 to C20 if the caller is a session. A session that speaks has fetched its token.
abbrev pub broken_by : State → Who → List StoredStatement → Json → Option ℕ
broken_by st who.Unknown before j = broken_outside false j
broken_by st who.Admin before j = broken_outside true j
broken_by st (who.Provider k) before j = broken_outside false j
broken_by st (who.Session k) before j =
    option_and_then (λ l. session.broken_rule (view_of l true (is_abandoned st k) before) j) (slice_get st.launches k)

abbrev pub told_forbidden : Option ℕ → Option Refusal
told_forbidden number = option_map (λ n. Forbidden (rule.C n)) number

-- Why a new statement isn't kept. Those before it are held, or stand before it in its batch.
abbrev pub forbidden : State → Who → List StoredStatement → Json → Option Refusal
forbidden st by before j = told_forbidden (broken_by st by before j)

-- Why a statement of this id isn't kept, if that one is held under it. If none is, what is told of a new one is told.
abbrev pub refused_over : Option Refusal → List ℕ → Json → Option StoredStatement → Option Refusal
refused_over if_new id j None = if_new
refused_over if_new id j (Some held) = when (not (same (view held.received) j)) (Conflict id)

-- Why a statement isn't kept that comes under an id. A made one is that of no held statement.
abbrev pub refused_under : State → Option Refusal → Option (List ℕ) → Json → Option Refusal
refused_under st if_new None j = if_new
refused_under st if_new (Some id) j = refused_over if_new id j (held_under id st.statements)

-- those before the next one, after this one: it is one of them if it isn't held
abbrev pub before_next : State → Occasion → List StoredStatement → WithId → List StoredStatement
before_next st at before n = before ++ new_by st at.by at.moment (n ∷ [])

-- Each in its order, with those before it. No two of them have one id, so none comes under that of an earlier one of
-- them.
abbrev pub refused_in : State → Occasion → List StoredStatement → List WithId → Option Refusal
refused_in st at before [] = None
refused_in st at before (n ∷ ns) = option_or
    (refused_under st (forbidden st at.by before (view n.tree)) (own_id (view n.tree)) (view n.tree))
    (refused_in st at (before_next st at before n) ns)

abbrev pub conflict : State → Occasion → Write → Option Refusal
conflict st at (Put id statement) =
    refused_under st (forbidden st at.by st.statements (view statement)) (Some id) (view statement)
conflict st at (Post statements) = refused_in st at st.statements (with_ids_in at (Post statements))
conflict st at other = None

-- ---- all of them

abbrev pub refusal_at : State → Occasion → Write → Option Refusal
refusal_at st at write = first_some (
    barred (write_area write) at.by
    ∷ bad_form write
    ∷ barred_document st at.by write
    ∷ missing st write
    ∷ unmergeable st write
    ∷ conflict st at write
    ∷ [])

-- why a write is refused whatever room there is
abbrev pub refusal : State → Entry → Option Refusal
refusal st e = refusal_at st (occasion st e) e.write

-- a link may not speak of more statements than there are: P14
abbrev pub too_late : State → Read → Option Refusal
too_late st (More link) = when (nat_lt (length st.statements) link.asof) (Broken (rule.P 14))
too_late st other = None

-- why a caller doesn't look at documents: A3
abbrev pub outside_of : Option Launch → WantedDocuments → Option Refusal
outside_of by (One key) = outside by key.agent key.registration
outside_of by (Ids activity agent registration since) = outside by agent registration

abbrev pub barred_question : State → Who → Read → Option Refusal
barred_question st by (Documents wanted) = outside_of (launch_of st by) wanted
barred_question st by other = None

-- why a caller who is let in isn't told
abbrev pub refused_inside : State → Who → Read → Option Refusal
refused_inside st by read = first_some (too_late st read ∷ barred_question st by read ∷ [])

abbrev pub read_refusal : State → Who → Read → Option Refusal
read_refusal st by read = option_or (barred (read_area read) by) (refused_inside st by read)
