-- What is said if nothing is refused.
use Rattle.std.specs.Prelude.{ℕ, ◌&&◌, Bool, true, false, not, length, take, Option, Some, None, if◌then◌else◌}
use Rattle.lrs_command.specs.declared.command.Read.{Read}
use Rattle.lrs_command.specs.declared.command.Read.TheVariants.{Statements, More, Documents, Profile, About}
use Rattle.lrs_command.specs.declared.command.Read.TheVariants.{Registration}
use Rattle.lrs_command.specs.declared.who.Who.{Who}
use Rattle.cmi5_course.specs.Courses.{course_key}
use Rattle.lrs_history.specs.Enrolments.{Enrolled, enrolled, verdicts_of}
use Rattle.lrs_history.specs.Whose.{sight_of}
use Rattle.lrs_state.specs.State.{State, changes_nothing}
use Rattle.lrs_state.specs.declared.acceptance.Acceptance.{Acceptance}
use Rattle.lrs_state.specs.declared.acceptance.Acceptance.TheVariants as acceptance
use Rattle.lrs_state.specs.declared.acceptance.Acceptance.TheVariants.{Plain, Provider}
use Rattle.lrs_state.specs.declared.effect.Effect.{Effect}
use Rattle.lrs_replies.specs.Texts.{provider_body, ids_body, states_body, versions_body, course_body, launch_body}
use Rattle.lrs_replies.specs.Texts.{registration_body, session_token_body, key_used_body, session_closed_body}
use Rattle.lrs_replies.specs.Texts.{swept_body}
use Rattle.lrs_replies.specs.Standings.{nodes_of, standing_body}
use Rattle.lrs_replies.specs.declared.answered.Answered.{Answered}
use Rattle.lrs_replies.specs.declared.answered.Answered.TheVariants.{Kept, Same, Shown}
use Rattle.lrs_replies.specs.declared.answered.Answered.TheVariants as answered
use Rattle.lrs_replies.specs.declared.answered.Refusal.TheVariants.{NotFound}
use Rattle.xapi_docs.specs.Documents.{document_under, ids_in}
use Rattle.xapi_docs.specs.declared.documents.Document.{Document}
use Rattle.xapi_keys.specs.declared.wanted.WantedDocuments.{WantedDocuments}
use Rattle.xapi_keys.specs.declared.wanted.WantedDocuments.TheVariants.{One, Ids}
use Rattle.xapi_format.specs.declared.format.Format.{Format}
use Rattle.xapi_pages.specs.Listings.{page_behind, page_body}
use Rattle.xapi_pages.specs.XapiStatementStatements.{held_under, is_voided}
use Rattle.xapi_pages.specs.XapiQueryFilters.{sees}
use Rattle.xapi_pages.specs.XapiQueryQueryQuery.{Query}
use Rattle.xapi_pages.specs.XapiQueryWantedWanted.{Wanted}
use Rattle.xapi_pages.specs.XapiQueryWantedWantedTheVariants as wanted
use Rattle.xapi_pages.specs.XapiQueryWantedWantedTheVariants.{Voided, Many}
use Rattle.xapi_pages.specs.XapiStatementStored.{StoredStatement}
use Rattle.xapi_pages.specs.XapiStatementShown.{shown_text}

-- ---- of a write, by what it changes

-- what is told of what was made, or why no token is given away; else this
abbrev pub acceptance_said : Acceptance → Answered → Answered
acceptance_said Plain said = said
acceptance_said (acceptance.Ids ids) said = Shown (ids_body ids) None
acceptance_said (Provider index token) said = Shown (provider_body index token) None
acceptance_said (acceptance.Course id edition) said = Shown (course_body id edition) None
acceptance_said (acceptance.Registration id) said = Shown (registration_body id) None
acceptance_said (acceptance.Launch session method url) said = Shown (launch_body session method url) None
acceptance_said (acceptance.Token token) said = Shown (session_token_body token) None
acceptance_said acceptance.KeyUsed said = Shown key_used_body None
acceptance_said acceptance.SessionClosed said = Shown session_closed_body None
acceptance_said (acceptance.Swept sessions) said = Shown (swept_body sessions) None

-- What is said of a write that isn't refused, whether it makes an entry or changes nothing.
abbrev pub write_said : Effect → Answered
write_said x = acceptance_said x.acceptance (if changes_nothing x then Same else Kept)

-- ---- of what is asked

-- a caller sees it, and it is voided or not as is asked
abbrev pub is_shown : State → Who → Bool → StoredStatement → Bool
is_shown st by true held = sees (sight_of st by) held && is_voided st.statements held
is_shown st by false held = sees (sight_of st by) held && not (is_voided st.statements held)

-- the statement that is wanted, if it is held and shown, consistent up to the last entry
abbrev pub one_said : State → Who → Format → Bool → Option StoredStatement → Answered
one_said st by format voided None = answered.Refused NotFound
one_said st by format voided (Some held) =
    if is_shown st by voided held then Shown (shown_text format held) (Some st.last) else answered.Refused NotFound

-- the page after a position in the list as of the first n statements, consistent up to the last entry
abbrev pub page_said : State → Who → Query → ℕ → Option ℕ → Answered
page_said st by query n after =
    Shown (page_body query n st.statements (page_behind query (sight_of st by) (take n st.statements) after))
    (Some st.last)

abbrev pub wanted_said : State → Who → Wanted → Answered
wanted_said st by (wanted.One id format) = one_said st by format false (held_under id st.statements)
wanted_said st by (Voided id format) = one_said st by format true (held_under id st.statements)
wanted_said st by (Many query) = page_said st by query (length st.statements) None

-- the document that is wanted, where one is held
abbrev pub document_said : Option Document → Answered
document_said None = answered.Refused NotFound
document_said (Some document) = answered.Document document.media document.bytes

-- The documents are the same for everyone whose question isn't refused.
abbrev pub documents_said : State → WantedDocuments → Answered
documents_said st (One key) = document_said (document_under key st.documents)
documents_said st (Ids activity agent registration since) =
    Shown (states_body (ids_in activity agent registration since st.documents)) None

-- how far the learner of a registration has come
abbrev pub standing_said : State → Option Enrolled → Answered
standing_said st None = answered.Refused NotFound
standing_said st (Some e) = Shown
    (standing_body e.registration.id (course_key e.edition.course) e.edition.number
    (nodes_of e.edition.course.nodes (verdicts_of st e))) None

-- What is said to a question that isn't refused. Of what isn't there this is said.
abbrev pub read_said : State → Who → Read → Answered
read_said st by (Statements wanted) = wanted_said st by wanted
read_said st by (More link) = page_said st by link.query link.asof (Some link.after)
read_said st by (Documents wanted) = documents_said st wanted
read_said st by Profile = answered.Refused NotFound
read_said st by (Registration id) = standing_said st (enrolled st id)
read_said st by About = Shown versions_body None
