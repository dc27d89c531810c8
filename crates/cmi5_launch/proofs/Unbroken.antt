-- A made statement breaks none of the rules on statements.
use Rattle.std.proofs.Common.{◌≡◌, ℕ, ◌&&◌, true, false, List, [], ◌∷◌, ◌++◌, map, Option, Some, None, is_some, codes, refl, ap}
use Rattle.std.specs.Str.{chars}
use Rattle.lrs_agents.specs.Agents.{agent_faults, agent_or_group_faults}
use Rattle.lrs_agents.specs.Identifiers.{is_identifier}
use Rattle.lrs_agent_texts.specs.Texts.{agent_json, agent_of, text_given}
use Rattle.lrs_agents.specs.declared.agents.Agent.{Agent}
use Rattle.lrs_agents.specs.declared.identifiers.Ifi.{Ifi}
use Rattle.lrs_agents.specs.declared.identifiers.Ifi.TheVariants.{Mbox, MboxSha1, OpenId, Account}
use Rattle.lrs_agent_texts.proofs.AgentTexts.{agent_json-unbroken}
use Rattle.lrs_json.specs.Json.{Json, object}
use Rattle.lrs_json.specs.View.{elements_of, members_of}
use Rattle.lrs_names.specs.Ids.{id_of, id_text}
use Rattle.lrs_names.specs.Iris.{is_iri}
use Rattle.lrs_names.specs.Languages.{is_language_tag}
use Rattle.lrs_names.specs.Rules.{least, lesser, unless}
use Rattle.xapi_values.specs.Kinds.{kind_of}
use Rattle.xapi_values.specs.Shapes.{are_iris, extension_faults}
use Rattle.xapi_statement.specs.XapiRulesContexts.{activities_faults, context_activities_faults, context_agent_faults, context_faults, faults_of_activities, is_context, is_result, result_faults}
use Rattle.xapi_statement.specs.XapiRulesNulls.{has_null, items_have_null, role_of_member}
use Rattle.xapi_statement.specs.XapiRulesObjects.{activity_faults, definition_faults, interaction_faults, is_activity, is_definition, is_interaction}
use Rattle.xapi_statement.specs.XapiRulesRules.{action_faults, actor_faults, are_timestamps, broken_rule, form_faults, has_no_revision, is_fit_revision, is_verb, is_voided_verb, is_voiding, object_faults, own_faults, shared_faults, statement_faults, verb_faults, voids_reference}
use Rattle.xapi_statement.specs.XapiRulesNullsNullRoleTheVariants.{Plain, Object, Described, Holder, Context}
use Rattle.cmi5_course.specs.declared.course.NodeKind.{NodeKind}
use Rattle.cmi5_course.specs.declared.course.NodeKind.TheVariants.{Course, Block, Unit as UnitKind}
use Rattle.cmi5_launch.specs.Activities.{activity_json}
use Rattle.cmi5_launch.specs.Data.{number_given, only_activity}
use Rattle.cmi5_launch.specs.Made.{Saying, abandoned_result, categories_json, context_activities, context_json, extensions_json, made_json, object_json, result_given, said, type_of, verb_json, waived_result}
use Rattle.cmi5_launch.specs.Names.{launch_parameters, mastery_score}
use Rattle.cmi5_launch.specs.declared.made.Made.{Made}
use Rattle.cmi5_launch.specs.declared.made.Made.TheVariants.{Launched, Abandoned, Waived, Satisfied}
use Rattle.cmi5_course.specs.declared.reason.Reason.{Reason}
use Rattle.cmi5_launch.proofs.Durations.{duration_is_one}

-- ---- no rule

never : (r : ℕ) (o : Option ℕ) → lesser (Some r) o ≡ None → ⊥
never r None e = cc
never r (Some s) e = cc

none_broken : (rules : List ℕ) → least rules ≡ None → rules ≡ []
none_broken [] e = refl
none_broken (r ∷ rules) e = absurd (never r (least rules) e)

-- ---- a statement with an actor, a verb, an object, a context, and maybe a result

record AreSound (who verb subject context : Json) : Type 0 where
  who_unbroken : actor_faults who ≡ []
  verb_unbroken : verb_faults verb ≡ []
  voids_none : is_voided_verb verb ≡ false
  subject_unbroken : object_faults subject ≡ []
  context_unbroken : context_faults context ≡ []
  no_revision : has_no_revision context ≡ true
  who_no_null : has_null Plain who ≡ false
  verb_no_null : has_null Plain verb ≡ false
  subject_no_null : has_null Object subject ≡ false
  context_no_null : has_null Context context ≡ false

record IsSoundResult (outcome : Json) : Type 0 where
  unbroken : result_faults outcome ≡ []
  no_null : has_null Holder outcome ≡ false

abbrev IsSoundIfThere : Option Json → Type 0
IsSoundIfThere None = Unit {0}
IsSoundIfThere (Some outcome) = IsSoundResult outcome

module _ (who verb subject context : Json) (h : AreSound who verb subject context) where
  abbrev whole : Option Json → Json
  whole outcome =
      object (members_of ((codes "actor", who) ∷ (codes "verb", verb) ∷ (codes "object", subject) ∷ (codes "context", context) ∷ result_given outcome))

  form_unbroken : (outcome : Option Json) → IsSoundIfThere outcome → form_faults (whole outcome) ≡ []
  unfolding form_faults role_of_member
  form_unbroken None sound = rw (h.who_no_null, h.verb_no_null, h.subject_no_null, h.context_no_null) refl
  form_unbroken (Some outcome) sound = rw (h.who_no_null, h.verb_no_null, h.subject_no_null, h.context_no_null, sound.no_null) refl

  own_unbroken : (outcome : Option Json) → own_faults (whole outcome) ≡ []
  unfolding own_faults voids_reference is_voiding
  own_unbroken None = rw h.voids_none refl
  own_unbroken (Some outcome) = rw h.voids_none refl

  action_unbroken : (outcome : Option Json) → IsSoundIfThere outcome → action_faults (whole outcome) ≡ []
  unfolding action_faults
  action_unbroken None sound = rw (h.who_unbroken, h.verb_unbroken) refl
  action_unbroken (Some outcome) sound = rw (h.who_unbroken, h.verb_unbroken, sound.unbroken) refl

  none_of_five : (a b c d e : List ℕ) → a ≡ [] → b ≡ [] → c ≡ [] → d ≡ [] → e ≡ [] → a ++ b ++ c ++ d ++ e ≡ []
  none_of_five a b c d e no_a no_b no_c no_d no_e = rw (no_a, no_b, no_c, no_d, no_e) refl

  fits : (outcome : Option Json) → is_fit_revision (whole outcome) ≡ true
  unfolding is_fit_revision
  fits None = rw h.no_revision refl
  fits (Some outcome) = rw h.no_revision refl

  shared_unbroken : (outcome : Option Json) → IsSoundIfThere outcome → shared_faults (whole outcome) ≡ []
  unfolding shared_faults are_timestamps
  shared_unbroken None sound =
      none_of_five (action_faults (whole None)) (context_faults context) [] (unless (is_fit_revision (whole None)) 29) [] (action_unbroken None sound) h.context_unbroken refl (ap (λ b. unless b 29) (fits None)) refl
  shared_unbroken (Some outcome) sound =
      none_of_five (action_faults (whole (Some outcome))) (context_faults context) [] (unless (is_fit_revision (whole (Some outcome))) 29) [] (action_unbroken (Some outcome) sound) h.context_unbroken refl
      (ap (λ b. unless b 29) (fits (Some outcome))) refl

  sound_unbroken : (outcome : Option Json) → IsSoundIfThere outcome → broken_rule (whole outcome) ≡ None
  unfolding broken_rule statement_faults
  sound_unbroken None sound =
      ap least (none_of_five (form_faults (whole None)) (own_faults (whole None)) (object_faults subject) [] (shared_faults (whole None))
      (form_unbroken None sound) (own_unbroken None) h.subject_unbroken refl (shared_unbroken None sound))
  sound_unbroken (Some outcome) sound =
      ap least (none_of_five (form_faults (whole (Some outcome))) (own_faults (whole (Some outcome))) (object_faults subject) [] (shared_faults (whole (Some outcome)))
      (form_unbroken (Some outcome) sound) (own_unbroken (Some outcome)) h.subject_unbroken refl (shared_unbroken (Some outcome) sound))

-- ---- the actor

agent_no_null : (ifi : Ifi) (name : Option (List ℕ)) → has_null Plain (agent_of ifi name) ≡ false
unfolding role_of_member
agent_no_null (Mbox text) None = refl
agent_no_null (Mbox text) (Some name) = refl
agent_no_null (MboxSha1 text) None = refl
agent_no_null (MboxSha1 text) (Some name) = refl
agent_no_null (OpenId text) None = refl
agent_no_null (OpenId text) (Some name) = refl
agent_no_null (Account home own) None = refl
agent_no_null (Account home own) (Some name) = refl

agent_unbroken : (actor : Agent) → is_identifier actor.ifi ≡ true → actor_faults (agent_json actor) ≡ []
unfolding agent_or_group_faults kind_of
agent_unbroken actor identifier = none_broken (agent_faults (agent_json actor)) (agent_json-unbroken actor identifier)

-- ---- the object

abbrev IsIriIfThere : Option (List ℕ) → Type 0
IsIriIfThere None = Unit {0}
IsIriIfThere (Some name) = is_iri name ≡ true

object_unbroken : (id : List ℕ) (name : Option (List ℕ)) → is_iri id ≡ true → IsIriIfThere name → object_faults (object_json id name) ≡ []
unfolding object_faults kind_of activity_faults is_activity definition_faults is_definition interaction_faults is_interaction
object_unbroken id None iri known = rw iri refl
object_unbroken id (Some name) iri known = let too : is_iri name ≡ true = known in rw (iri, too) refl

object_no_null : (id : List ℕ) (name : Option (List ℕ)) → has_null Object (object_json id name) ≡ false
unfolding role_of_member kind_of
object_no_null id None = refl
object_no_null id (Some name) = refl

-- ---- the context

only_unbroken : (id : List ℕ) → is_iri id ≡ true → activities_faults (only_activity id) ≡ []
unfolding activities_faults faults_of_activities activity_faults is_activity
only_unbroken id iri = rw iri refl

activities_unbroken : (publisher : List ℕ) (categories : List (List ℕ)) → is_iri publisher ≡ true → activities_faults (categories_json categories) ≡ [] → context_activities_faults (context_activities publisher categories) ≡ []
unfolding context_activities_faults
activities_unbroken publisher categories iri known = rw (only_unbroken publisher iri, known) refl

categories_no_null : (ids : List (List ℕ)) → items_have_null Described (elements_of (map activity_json ids)) ≡ false
unfolding role_of_member kind_of
categories_no_null [] = refl
categories_no_null (id ∷ ids) = categories_no_null ids

none_of_four : (a b c d : List ℕ) → a ≡ [] → b ≡ [] → c ≡ [] → d ≡ [] → a ++ b ++ c ++ [] ++ d ≡ []
none_of_four a b c d no_a no_b no_c no_d = rw (no_a, no_b, no_c, no_d) refl

-- what is asked of what is said
record IsSaid (s : Saying) : Type 0 where
  verb_unbroken : verb_faults (verb_json s.verb s.word) ≡ []
  voids_none : is_voided_verb (verb_json s.verb s.word) ≡ false
  named : IsIriIfThere s.activity_type
  categories : activities_faults (categories_json s.categories) ≡ []
  extensions : (session : List ℕ) → extension_faults (extensions_json session s.extensions) ≡ []
  outcome : IsSoundIfThere s.outcome

module _ (s : Saying) (h : IsSaid s) (publisher registration session : List ℕ) where
  form_of_context : id_of (id_text registration) ≡ Some registration → is_context (context_json s publisher registration session) ≡ true
  unfolding is_context
  form_of_context back = ap (λ o. is_some o && true && true && true && true) back

  no_context_agents : context_agent_faults (context_json s publisher registration session) ≡ []
  unfolding context_agent_faults
  no_context_agents = refl

  whole_context_unbroken : is_iri publisher ≡ true → id_of (id_text registration) ≡ Some registration → context_faults (context_json s publisher registration session) ≡ []
  unfolding context_faults
  whole_context_unbroken iri back =
      let context : Json = context_json s publisher registration session in
      none_of_four (unless (is_context context) 27) (context_agent_faults context) (context_activities_faults (context_activities publisher s.categories)) (extension_faults (extensions_json session s.extensions))
      (ap (λ b. unless b 27) (form_of_context back)) no_context_agents (activities_unbroken publisher s.categories iri h.categories) (h.extensions session)

  whole_context_no_null : has_null Context (context_json s publisher registration session) ≡ false
  unfolding role_of_member kind_of
  whole_context_no_null = rw (categories_no_null s.categories) refl

-- ---- what each kind says

said_verb : (made : Made) → verb_faults (verb_json (said made).verb (said made).word) ≡ []
unfolding verb_faults is_verb is_language_tag is_iri chars
said_verb (Launched mode unit) = refl
said_verb (Abandoned ms unit) = refl
said_verb (Waived why unit) = refl
said_verb (Satisfied kind) = refl

said_voids_none : (made : Made) → is_voided_verb (verb_json (said made).verb (said made).word) ≡ false
said_voids_none (Launched mode unit) = refl
said_voids_none (Abandoned ms unit) = refl
said_voids_none (Waived why unit) = refl
said_voids_none (Satisfied kind) = refl

type_named : (kind : NodeKind) → IsIriIfThere (type_of kind)
unfolding is_iri chars
type_named Course = refl
type_named Block = refl
type_named UnitKind = tt

said_named : (made : Made) → IsIriIfThere (said made).activity_type
said_named (Launched mode unit) = tt
said_named (Abandoned ms unit) = tt
said_named (Waived why unit) = tt
said_named (Satisfied kind) = type_named kind

said_categories : (made : Made) → activities_faults (categories_json (said made).categories) ≡ []
unfolding activities_faults faults_of_activities activity_faults is_activity is_iri chars
said_categories (Launched mode unit) = refl
said_categories (Abandoned ms unit) = refl
said_categories (Waived why unit) = refl
said_categories (Satisfied kind) = refl

given_are : (score parameters : Option (List ℕ)) → are_iris (members_of (number_given mastery_score score ++ text_given launch_parameters parameters)) ≡ true
unfolding is_iri chars
given_are None None = refl
given_are None (Some text) = refl
given_are (Some score) None = refl
given_are (Some score) (Some text) = refl

said_extensions : (made : Made) (session : List ℕ) → extension_faults (extensions_json session (said made).extensions) ≡ []
unfolding is_iri chars
said_extensions (Launched mode unit) session = ap (λ b. unless b 6) (given_are unit.now.mastery_text unit.now.parameters)
said_extensions (Abandoned ms unit) session = refl
said_extensions (Waived why unit) session = refl
said_extensions (Satisfied kind) session = refl

abandoned_unbroken : (ms : ℕ) → result_faults (abandoned_result ms) ≡ []
unfolding result_faults is_result
abandoned_unbroken ms = rw (duration_is_one ms) refl

waived_unbroken : (why : Reason) → result_faults (waived_result why) ≡ []
unfolding result_faults is_result is_iri chars
waived_unbroken why = refl

abandoned_no_null : (ms : ℕ) → has_null Holder (abandoned_result ms) ≡ false
unfolding role_of_member
abandoned_no_null ms = refl

waived_no_null : (why : Reason) → has_null Holder (waived_result why) ≡ false
unfolding role_of_member
waived_no_null why = refl

said_outcome : (made : Made) → IsSoundIfThere (said made).outcome
said_outcome (Launched mode unit) = tt
said_outcome (Abandoned ms unit) = record { unbroken = abandoned_unbroken ms; no_null = abandoned_no_null ms }
said_outcome (Waived why unit) = record { unbroken = waived_unbroken why; no_null = waived_no_null why }
said_outcome (Satisfied kind) = tt

is_said : (made : Made) → IsSaid (said made)
is_said made = record {
  verb_unbroken = said_verb made;
  voids_none = said_voids_none made;
  named = said_named made;
  categories = said_categories made;
  extensions = said_extensions made;
  outcome = said_outcome made;
}

-- ---- the whole

verb_no_null : (id word : List ℕ) → has_null Plain (verb_json id word) ≡ false
unfolding role_of_member
verb_no_null id word = refl

pub made_unbroken : (made : Made) (actor : Agent) (activity publisher registration session : List ℕ) → is_identifier actor.ifi ≡ true → is_iri activity ≡ true → is_iri publisher ≡ true → id_of (id_text registration) ≡ Some registration
    → broken_rule (made_json made actor activity publisher registration session) ≡ None
made_unbroken made actor activity publisher registration session identifier known own back =
    let s : Saying = said made in
    let h : IsSaid s = is_said made in
    sound_unbroken (agent_json actor) (verb_json s.verb s.word) (object_json activity s.activity_type) (context_json s publisher registration session)
    (record {
      who_unbroken = agent_unbroken actor identifier;
      verb_unbroken = h.verb_unbroken;
      voids_none = h.voids_none;
      subject_unbroken = object_unbroken activity s.activity_type known h.named;
      context_unbroken = whole_context_unbroken s h publisher registration session own back;
      no_revision = refl;
      who_no_null = agent_no_null actor.ifi actor.name;
      verb_no_null = verb_no_null s.verb s.word;
      subject_no_null = object_no_null activity s.activity_type;
      context_no_null = whole_context_no_null s h publisher registration session;
    })
    s.outcome h.outcome
