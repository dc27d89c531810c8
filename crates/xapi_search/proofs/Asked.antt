-- What the filters of a query ask for, by the keys of statements.
use Rattle.std.proofs.Common.{◌≡◌, ℕ, List, sym, ◌∙◌, ap, Option, Some, None, Bool, true, bytes_eq}
use Rattle.std.specs.Option.{option_map_or}
use Rattle.lrs_agents.specs.declared.identifiers.Ifi.{Ifi}
use Rattle.lrs_json.specs.View.{view}
use Rattle.xapi_index.specs.XapiQueryFilters.{is_registered, passes_activity, passes_agent, passes_registration, passes_verb}
use Rattle.xapi_index.specs.XapiQueryQueryGiven.{Given}
use Rattle.xapi_index.specs.XapiQueryQueryQuery.{Query}
use Rattle.xapi_search.specs.Narrowing.{AsksFor}
use Rattle.xapi_index.specs.XapiStatementShown.{takes_part}
use Rattle.xapi_index.specs.XapiStatementStatement.{has_activity, verb_of}
use Rattle.xapi_index.specs.XapiStatementStored.{StoredStatement}
use Rattle.xapi_index.specs.XapiStatementKeysKeyKey.{Key}
use Rattle.xapi_index.specs.XapiStatementKeysKeyKeyTheVariants as key

-- ---- an agent

abbrev by_agent : Bool → StoredStatement → Option (Given Ifi) → Bool
by_agent related s o = option_map_or (λ (actor : Given Ifi). takes_part actor.value related s) o true

pub agent_given : (query : Query) (actor : Given Ifi) (ifi : Ifi) (asked : Key) → query.agent ≡ Some actor → ifi ≡ actor.value → AsksFor (Some asked) (takes_part ifi query.related_agents) → AsksFor (Some asked) (passes_agent query)
agent_given query actor ifi asked given same asks = λ s.
    asks s ∙ (ap (λ (i : Ifi). takes_part i query.related_agents s) same ∙ ap (by_agent query.related_agents s) (sym given))

pub agent_not_given : (query : Query) → query.agent ≡ None → AsksFor None (passes_agent query)
agent_not_given query none = λ s. ap (by_agent query.related_agents s) (sym none)

-- ---- a verb

abbrev by_verb : StoredStatement → Option (List ℕ) → Bool
by_verb s o = option_map_or (λ (id : List ℕ). bytes_eq (verb_of (view s.received)) id) o true

pub verb_given : (query : Query) (id text : List ℕ) → query.verb ≡ Some id → text ≡ id → AsksFor (Some (key.Verb text)) (passes_verb query)
verb_given query id text given same = λ s. ap (λ (t : List ℕ). bytes_eq (verb_of (view s.received)) t) same ∙ ap (by_verb s) (sym given)

pub verb_not_given : (query : Query) → query.verb ≡ None → AsksFor None (passes_verb query)
verb_not_given query none = λ s. ap (by_verb s) (sym none)

-- ---- an activity

abbrev by_activity : Bool → StoredStatement → Option (List ℕ) → Bool
by_activity related s o = option_map_or (λ (id : List ℕ). has_activity id related (view s.received)) o true

pub activity_given : (query : Query) (id text : List ℕ) (asked : Key) → query.activity ≡ Some id → text ≡ id → AsksFor (Some asked) (λ s. has_activity text query.related_activities (view s.received)) → AsksFor (Some asked) (passes_activity query)
activity_given query id text asked given same asks = λ s.
    asks s ∙ (ap (λ (t : List ℕ). has_activity t query.related_activities (view s.received)) same ∙ ap (by_activity query.related_activities s) (sym given))

pub activity_not_given : (query : Query) → query.activity ≡ None → AsksFor None (passes_activity query)
activity_not_given query none = λ s. ap (by_activity query.related_activities s) (sym none)

-- ---- a registration

abbrev by_registration : StoredStatement → Option (List ℕ) → Bool
by_registration s o = option_map_or (λ (id : List ℕ). is_registered id s) o true

pub registration_given : (query : Query) (id : List ℕ) → query.registration ≡ Some id → AsksFor (Some (key.Registration id)) (passes_registration query)
registration_given query id given = λ s. ap (by_registration s) (sym given)

pub registration_not_given : (query : Query) → query.registration ≡ None → AsksFor None (passes_registration query)
registration_not_given query none = λ s. ap (by_registration s) (sym none)
