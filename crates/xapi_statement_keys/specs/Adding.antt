-- How a list of keys grows, and which keys the parts of a statement put into it.
use Rattle.std.specs.Prelude.{◌≡◌, ℕ, ◌==◌, ◌&&◌, ◌||◌, Bool, true, false, codes, List, Option, Some, None, is_some}
use Rattle.std.specs.Option.{option_map_or}
use Rattle.std.specs.Str.{bytes_eq}
use Rattle.lrs_agents.specs.Identifiers.{same_ifi}
use Rattle.lrs_agents.specs.declared.identifiers.Ifi.{Ifi}
use Rattle.lrs_json.specs.Json.{Json}
use Rattle.lrs_json.specs.View.{view}
use Rattle.lrs_names.specs.Members.{has_member_that}
use Rattle.xapi_query.specs.XapiFormatAuthorities.{authority_json}
use Rattle.xapi_query.specs.XapiFormatParty.{is_party}
use Rattle.xapi_query.specs.XapiFormatAuthorityAuthority.{Authority}
use Rattle.xapi_query.specs.XapiFormatAuthorityAuthorityTheVariants as authority
use Rattle.xapi_query.specs.Filters.{is_of_provider, is_registered}
use Rattle.xapi_query.specs.XapiStatementParties.{has_context_agent, has_direct_agent}
use Rattle.xapi_query.specs.XapiStatementParties.{is_party_object, nested_has_agent}
use Rattle.xapi_query.specs.XapiStatementStatement.{context_holds, has_some_context_activity}
use Rattle.xapi_query.specs.XapiStatementStatement.{holds_at, is_about, is_activity_of}
use Rattle.xapi_query.specs.XapiStatementStatement.{nested_has_activity, verb_of}
use Rattle.xapi_query.specs.XapiStatementStored.{StoredStatement}
use Rattle.xapi_statement_keys.specs.Keys.{is_among}
use Rattle.xapi_statement_keys.specs.declared.key.Key.{Key}
use Rattle.xapi_statement_keys.specs.declared.key.Key.TheVariants as key

-- Afterwards a key is among the list exactly if it was before, or if it is one of these.
pub record Adds (old new : List Key) (is_added : Key → Bool) : Type 0 where
  pub each : (k : Key) → is_among k new ≡ (is_among k old || is_added k)

-- the same kind of key, with the same part
abbrev pub same_parts : Key → Key → Bool
same_parts (key.Statement a) (key.Statement b) = bytes_eq a b
same_parts (key.Verb a) (key.Verb b) = bytes_eq a b
same_parts (key.Activity a) (key.Activity b) = bytes_eq a b
same_parts (key.RelatedActivity a) (key.RelatedActivity b) = bytes_eq a b
same_parts (key.Agent a) (key.Agent b) = same_ifi a b
same_parts (key.RelatedAgent a) (key.RelatedAgent b) = same_ifi a b
same_parts (key.Registration a) (key.Registration b) = bytes_eq a b
same_parts (key.Provider a) (key.Provider b) = a == b
same_parts (key.Reference a) (key.Reference b) = bytes_eq a b
same_parts (key.Voiding a) (key.Voiding b) = bytes_eq a b
same_parts key.AnyReference key.AnyReference = true
same_parts _ _ = false

-- ---- roles: what stands in a direct one has the plain key and the related one, in another the related one alone

-- the keys of parties
abbrev pub agent_keys : Bool → (Ifi → Bool) → Key → Bool
agent_keys direct party (key.Agent ifi) = direct && party ifi
agent_keys direct party (key.RelatedAgent ifi) = party ifi
agent_keys direct party _ = false

-- the keys of activities
abbrev pub activity_keys : Bool → (List ℕ → Bool) → Key → Bool
activity_keys direct activity (key.Activity id) = direct && activity id
activity_keys direct activity (key.RelatedActivity id) = activity id
activity_keys direct activity _ = false

-- the keys of both
abbrev pub named_keys : Bool → (Ifi → Bool) → (List ℕ → Bool) → Key → Bool
named_keys direct party activity (key.Agent ifi) = direct && party ifi
named_keys direct party activity (key.RelatedAgent ifi) = party ifi
named_keys direct party activity (key.Activity id) = direct && activity id
named_keys direct party activity (key.RelatedActivity id) = activity id
named_keys direct party activity _ = false

-- one of the four members of context activities holds the Activity of that id
abbrev pub holds_some : List ℕ → Json → Bool
holds_some id j =
    holds_at (codes "parent") id j || holds_at (codes "grouping") id j
    || holds_at (codes "category") id j || holds_at (codes "other") id j

-- the same of a context
abbrev pub context_holds_some : List ℕ → Json → Bool
context_holds_some id j =
    context_holds (codes "parent") id j || context_holds (codes "grouping") id j
    || context_holds (codes "category") id j || context_holds (codes "other") id j

-- the keys by the object, if there is one: a SubStatement's roles are related ones
abbrev pub object_keys : Option Json → Key → Bool
object_keys o k =
    named_keys true (λ ifi. option_map_or (is_party_object ifi) o false)
    (λ id. option_map_or (is_activity_of id) o false) k
    || named_keys false (λ ifi. option_map_or (nested_has_agent ifi) o false)
    (λ id. option_map_or (nested_has_activity id) o false) k

-- the keys of the parties and activities of a statement, but for its authority
abbrev pub role_keys : Json → Key → Bool
role_keys j (key.Agent ifi) = has_direct_agent ifi j
role_keys j (key.RelatedAgent ifi) =
    has_direct_agent ifi j
    || (has_context_agent ifi j || has_member_that (codes "object") (nested_has_agent ifi) j)
role_keys j (key.Activity id) = is_about id j
role_keys j (key.RelatedActivity id) =
    is_about id j
    || (has_some_context_activity id j || has_member_that (codes "object") (nested_has_activity id) j)
role_keys j _ = false

-- ---- the authority

-- the number of the provider that it is
abbrev pub provider_in : Authority → Option ℕ
provider_in authority.Admin = None
provider_in (authority.Provider number name) = Some number
provider_in (authority.Session id) = None
provider_in authority.Desk = None

abbrev pub provider_keys : Option ℕ → Key → Bool
provider_keys o (key.Provider number) = option_map_or (λ own. own == number) o false
provider_keys o _ = false

abbrev pub authority_keys : Authority → Key → Bool
authority_keys a (key.RelatedAgent ifi) = is_party ifi (authority_json a)
authority_keys a (key.Provider number) = is_of_provider number a
authority_keys a _ = false

-- ---- what a statement has once

abbrev pub registration_keys : Option (List ℕ) → Key → Bool
registration_keys o (key.Registration id) = option_map_or (λ own. bytes_eq own id) o false
registration_keys o _ = false

-- its id, its verb and its registration
abbrev pub own_keys : StoredStatement → Key → Bool
own_keys s (key.Statement id) = bytes_eq s.id id
own_keys s (key.Verb id) = bytes_eq (verb_of (view s.received)) id
own_keys s (key.Registration id) = is_registered id s
own_keys s _ = false

-- the keys by the statement to which it refers, if it does, and by whether it voids that one
abbrev pub reference_keys : Bool → Option (List ℕ) → Key → Bool
reference_keys voiding o (key.Reference id) = option_map_or (λ own. bytes_eq own id) o false
reference_keys voiding o (key.Voiding id) = voiding && option_map_or (λ own. bytes_eq own id) o false
reference_keys voiding o key.AnyReference = is_some o
reference_keys voiding o _ = false
