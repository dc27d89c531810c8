-- The twenty rules on what a session and others may say of a learner, by their numbers: a profile of this store's own
-- over cmi5 Quartz, section 9. C1 and C2 are asked of the statements of a caller who is no session, C2 to C7 of those
-- of a session, C8 to C20 of those among these that cmi5 defines.
use Rattle.std.specs.Prelude.{ℕ, ◌&&◌, Bool, true, false, not, List, [], ◌∷◌, Option, Some, None, codes}
use Rattle.std.specs.Prelude.{if◌then◌else◌}
use Rattle.std.specs.Option.{option_map_or}
use Rattle.std.specs.Str.{bytes_eq}
use Rattle.cmi5_course.specs.declared.launch.Launch.{Launch}
use Rattle.cmi5_course.specs.declared.launch.Mode.{Mode}
use Rattle.cmi5_course.specs.declared.launch.Mode.TheVariants.{Normal, Browse, Review}
use Rattle.cmi5_launch.specs.Names.{completed, failed, initialized, mastery_score, move_on_category, passed, session_id}
use Rattle.cmi5_launch.specs.Names.{terminated}
use Rattle.cmi5_session.specs.Own.{is_cmi5_defined, says}
use Rattle.cmi5_session.specs.Views.{SeenSession}
use Rattle.cmi5_session.specs.declared.phase.Phase.{Phase}
use Rattle.cmi5_session.specs.declared.phase.Phase.TheVariants as phase
use Rattle.cmi5_session.specs.declared.verb.Verb.{Verb}
use Rattle.cmi5_session.specs.declared.verb.Verb.TheVariants as verb
use Rattle.lrs_agents.specs.Identifiers.{same_ifi}
use Rattle.lrs_ids.specs.Choices.{first_some, when}
use Rattle.lrs_json.specs.Json.{Json}
use Rattle.lrs_names.specs.Ids.{id_text}
use Rattle.lrs_names.specs.Members.{is_word}
use Rattle.cmi5_launch.specs.XapiStatementStatements.{is_that_id}
use Rattle.xapi_rules.specs.Rules.{is_voiding}
use Rattle.cmi5_launch.specs.XapiStatementParties.{actor_of}
use Rattle.cmi5_launch.specs.XapiStatementStatement.{activity_of, extension_of, has_context_activity, has_duration}
use Rattle.cmi5_launch.specs.XapiStatementStatement.{registration_of, result_boolean, scaled_of, verb_of}
use Rattle.xapi_values.specs.Numbers.{are_equal, is_below, is_not_above}
use Rattle.lrs_names.specs.Members.{spelling_of}

-- ---- the verbs of a session (section 9.3)

abbrev pub verb_named : List ℕ → Option Verb
verb_named id =
    if bytes_eq id initialized then Some verb.Initialized
    else (if bytes_eq id completed then Some verb.Completed
    else (if bytes_eq id passed then Some verb.Passed
    else (if bytes_eq id failed then Some verb.Failed
    else (if bytes_eq id terminated then Some verb.Terminated else None))))

-- it says how the learner did
abbrev pub is_result : Verb → Bool
is_result verb.Initialized = false
is_result verb.Completed = true
is_result verb.Passed = true
is_result verb.Failed = true
is_result verb.Terminated = false

-- ---- of every statement of a session

-- C3: the actor is the learner, an Agent with its identifier
abbrev pub is_of_learner : Launch → Json → Bool
is_of_learner launch j = option_map_or (same_ifi launch.actor) (actor_of j) false

-- C5 and C6: nothing comes behind its end. C7: nothing comes before initialized, as cmi5 defines it.
abbrev pub broken_by_phase : Phase → Json → Option ℕ
broken_by_phase phase.Abandoned j = Some 5
broken_by_phase phase.Terminated j = Some 6
broken_by_phase phase.Initialized j = None
broken_by_phase phase.Fetched j = when (not (says initialized j)) 7
broken_by_phase phase.Launched j = when (not (says initialized j)) 7

-- ---- of those that cmi5 defines

-- C10: the extension spells the session's id, in lower case
abbrev pub names_session : List ℕ → Json → Bool
names_session id j = option_map_or (is_word (id_text id)) (extension_of session_id j) false

-- C12: initialized comes once
abbrev pub begins_again : Phase → Verb → Bool
begins_again phase.Initialized verb.Initialized = true
begins_again phase other = false

-- C13: how the learner did is told in the mode Normal alone
abbrev pub is_normal : Mode → Bool
is_normal Normal = true
is_normal Browse = false
is_normal Review = false

abbrev pub is_truth : Bool → Option Bool → Bool
is_truth expected None = false
is_truth true (Some told) = told
is_truth false (Some told) = not told

-- C15: the result tells what the verb says
abbrev pub tells_result : Verb → Json → Bool
tells_result verb.Completed j = is_truth true (result_boolean (codes "completion") j)
tells_result verb.Passed j = is_truth true (result_boolean (codes "success") j)
tells_result verb.Failed j = is_truth false (result_boolean (codes "success") j)
tells_result other j = true

-- C16 and C17: that the unit was completed, and that it was passed, stands once in a registration.
abbrev pub broken_by_earlier : SeenSession → Verb → Option ℕ
broken_by_earlier v verb.Completed = when v.completed 16
broken_by_earlier v verb.Passed = when v.passed 17
broken_by_earlier v other = None

-- C18: where both are given, who passed has no lower score than the mastery score, and who failed has a lower one.
abbrev pub fits_mastery : Option (List ℕ) → Verb → Json → Bool
fits_mastery mastery verb.Passed j = is_not_above mastery (scaled_of j)
fits_mastery mastery verb.Failed j = is_below (scaled_of j) mastery
fits_mastery mastery other j = true

-- C19: where the statement tells a mastery score, it is a number, and that of the unit.
abbrev pub is_number_of : Option (List ℕ) → Json → Bool
is_number_of None j = false
is_number_of (Some mastery) j = option_map_or (λ s. are_equal s mastery) (spelling_of j) false

abbrev pub quotes_mastery : Option (List ℕ) → Json → Bool
quotes_mastery mastery j = option_map_or (is_number_of mastery) (extension_of mastery_score j) true

-- C20: who ends tells how long it took
abbrev pub tells_duration : Verb → Json → Bool
tells_duration verb.Terminated j = has_duration j
tells_duration other j = true

-- C18 to C20
abbrev pub broken_by_values : Option (List ℕ) → Verb → Json → Option ℕ
broken_by_values mastery verb j = first_some (
    when (not (fits_mastery mastery verb j)) 18
    ∷ when (not (quotes_mastery mastery j)) 19
    ∷ when (not (tells_duration verb j)) 20
    ∷ [])

-- C12 to C20. C14: how the learner did counts for the unit's moveOn.
abbrev pub broken_by_verb : SeenSession → Verb → Json → Option ℕ
broken_by_verb v verb j = first_some (
    when (begins_again v.phase verb) 12
    ∷ when (is_result verb && not (is_normal v.launch.mode)) 13
    ∷ when (is_result verb && not (has_context_activity (codes "category") move_on_category j)) 14
    ∷ when (not (tells_result verb j)) 15
    ∷ broken_by_earlier v verb
    ∷ broken_by_values v.launch.mastery verb j
    ∷ [])

-- C9 to C20. C9: the object is the unit. C11: the grouping activities hold the publisher's id.
abbrev pub broken_spoken : SeenSession → Verb → Json → Option ℕ
broken_spoken v verb j = first_some (
    when (not (is_that_id v.launch.activity (activity_of j))) 9
    ∷ when (not (names_session v.launch.session j)) 10
    ∷ when (not (has_context_activity (codes "grouping") v.launch.publisher j)) 11
    ∷ broken_by_verb v verb j
    ∷ [])

-- C8 to C20. C8: the verb is one of those of a session.
abbrev pub broken_defined : SeenSession → Option Verb → Json → Option ℕ
broken_defined v None j = Some 8
broken_defined v (Some verb) j = broken_spoken v verb j

-- ---- the least rule that is broken

-- By a session. C2: it voids nothing. C4: the registration is its own.
abbrev pub broken_rule : SeenSession → Json → Option ℕ
broken_rule v j = first_some (
    when (is_voiding j) 2
    ∷ when (not (is_of_learner v.launch j)) 3
    ∷ when (not (is_that_id v.launch.registration (registration_of j))) 4
    ∷ broken_by_phase v.phase j
    ∷ (if is_cmi5_defined j then broken_defined v (verb_named (verb_of j)) j else None)
    ∷ [])

-- By another caller. C1: only a session says what cmi5 defines. C2: only an admin voids.
abbrev pub broken_outside : Bool → Json → Option ℕ
broken_outside admin j = first_some (when (is_cmi5_defined j) 1 ∷ when (is_voiding j && not admin) 2 ∷ [])
