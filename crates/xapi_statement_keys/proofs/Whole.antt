-- The keys of a statement, put together from those of its parts.
use Rattle.std.proofs.Common.{◌≡◌, ℕ, ◌==◌, List, Bool, true, false, ◌&&◌, ◌||◌, Option, Some, None, codes, refl, sym, ap, ◌∙◌}
use Rattle.std.proofs.Math.Bool.{and-false, or-false}
use Rattle.std.specs.Option.{option_map_or}
use Rattle.std.specs.Str.{bytes_eq}
use Rattle.lrs_agents.specs.Identifiers.{same_ifi}
use Rattle.lrs_agents.specs.declared.identifiers.Ifi.{Ifi}
use Rattle.lrs_agents.specs.declared.identifiers.Ifi.TheVariants.{Account}
use Rattle.lrs_json.specs.Find.{find}
use Rattle.lrs_json.specs.Json.{Json}
use Rattle.lrs_json.specs.View.{view}
use Rattle.lrs_names.specs.Members.{has_member_that}
use Rattle.xapi_query.specs.XapiFormatAuthorities.{account_name, authority_json, authority_name, home_page}
use Rattle.xapi_query.specs.XapiFormatParty.{is_party}
use Rattle.xapi_query.specs.XapiFormatAuthorityAuthority.{Authority}
use Rattle.xapi_query.specs.XapiFormatAuthorityAuthorityTheVariants as authority
use Rattle.xapi_query.specs.XapiFormatAuthoritiesProofs.{is_authority}
use Rattle.xapi_query.specs.Filters.{is_of_provider, is_registered}
use Rattle.xapi_query.specs.XapiRulesRules.{is_voiding}
use Rattle.xapi_query.specs.XapiStatementParties.{has_context_agent, has_direct_agent, is_party_object, nested_has_agent}
use Rattle.xapi_query.specs.XapiStatementStatement.{has_activity, has_some_context_activity, is_about, is_activity_of, nested_has_activity, registration_of, target_of, verb_of}
use Rattle.xapi_query.specs.XapiStatementStored.{StoredStatement}
use Rattle.xapi_statement_keys.specs.Adding.{agent_keys, authority_keys, named_keys, object_keys, own_keys, role_keys, provider_in, provider_keys, reference_keys, registration_keys, same_parts}
use Rattle.xapi_statement_keys.specs.Keys.{has_key}
use Rattle.xapi_statement_keys.specs.declared.key.Key.{Key}
use Rattle.xapi_statement_keys.specs.declared.key.Key.TheVariants as key

-- ---- roles

plain : (a o : Bool) → (a || o) ≡ ((a || (o || false)) || false)
plain true o = refl
plain false true = refl
plain false false = refl

related : (a o n c : Bool) → ((a || o) || (c || n)) ≡ ((a || (o || n)) || c)
related true o n c = refl
related false true n c = refl
related false false true true = refl
related false false true false = refl
related false false false true = refl
related false false false false = refl

-- the actor, the object, and the context
pub role_split : (j : Json) (k : Key)
    → role_keys j k ≡ ((agent_keys true (λ ifi. has_member_that (codes "actor") (is_party ifi) j) k || object_keys (find (codes "object") j) k)
    || named_keys false (λ ifi. has_context_agent ifi j) (λ id. has_some_context_activity id j) k)
unfolding has_direct_agent is_about
role_split j (key.Agent ifi) = plain (has_member_that (codes "actor") (is_party ifi) j) (has_member_that (codes "object") (is_party_object ifi) j)
role_split j (key.RelatedAgent ifi) =
    related (has_member_that (codes "actor") (is_party ifi) j) (has_member_that (codes "object") (is_party_object ifi) j) (has_member_that (codes "object") (nested_has_agent ifi) j) (has_context_agent ifi j)
role_split j (key.Activity id) = plain false (has_member_that (codes "object") (is_activity_of id) j)
role_split j (key.RelatedActivity id) =
    related false (has_member_that (codes "object") (is_activity_of id) j) (has_member_that (codes "object") (nested_has_activity id) j) (has_some_context_activity id j)
role_split j _ = refl

-- ---- the authority

provider_is : (number : ℕ) (a : Authority) → is_of_provider number a ≡ option_map_or (λ own. own == number) (provider_in a) false
provider_is number authority.Admin = refl
provider_is number (authority.Provider own name) = refl
provider_is number (authority.Session id) = refl
provider_is number authority.Desk = refl

pub authority_split : (a : Authority) (account : Ifi) → account ≡ Account home_page (account_name a) → (k : Key)
    → authority_keys a k ≡ (agent_keys false (λ other. same_ifi other account) k || provider_keys (provider_in a) k)
authority_split a account is (key.RelatedAgent ifi) =
    is_authority ifi (authority_name a) (account_name a) ∙ ap (λ i. same_ifi ifi i) (sym is) ∙ sym (or-false (same_ifi ifi account))
authority_split a account is (key.Provider number) = provider_is number a
authority_split a account is _ = refl

pub one_provider : (number : ℕ) (k : Key) → same_parts (key.Provider number) k ≡ provider_keys (Some number) k
one_provider number (key.Provider other) = refl
one_provider number _ = refl

pub no_provider : (k : Key) → provider_keys None k ≡ false
no_provider (key.Provider number) = refl
no_provider _ = refl

-- ---- what a statement has once

pub one_registration : (id : List ℕ) (k : Key) → same_parts (key.Registration id) k ≡ registration_keys (Some id) k
one_registration id (key.Registration other) = refl
one_registration id _ = refl

pub no_registration : (k : Key) → registration_keys None k ≡ false
no_registration (key.Registration id) = refl
no_registration _ = refl

pub own_split : (s : StoredStatement) (id verb : List ℕ) (registration : Option (List ℕ)) → id ≡ s.id → verb ≡ verb_of (view s.received) → registration ≡ registration_of (view s.received) → (k : Key)
    → own_keys s k ≡ ((same_parts (key.Statement id) k || same_parts (key.Verb verb) k) || registration_keys registration k)
own_split s id verb registration id_is verb_is registration_is (key.Statement i) = ap (λ x. bytes_eq x i) (sym id_is) ∙ plain false (bytes_eq id i)
own_split s id verb registration id_is verb_is registration_is (key.Verb i) = ap (λ x. bytes_eq x i) (sym verb_is) ∙ sym (or-false (bytes_eq verb i))
own_split s id verb registration id_is verb_is registration_is (key.Registration i) = ap (λ o. option_map_or (λ own. bytes_eq own i) o false) (sym registration_is)
own_split s id verb registration id_is verb_is registration_is _ = refl

-- ---- references

pub reference_split : (voiding : Bool) (id : List ℕ) (k : Key)
    → reference_keys voiding (Some id) k ≡ ((same_parts (key.Reference id) k || (voiding && same_parts (key.Voiding id) k)) || same_parts key.AnyReference k)
reference_split voiding id (key.Reference i) =
    sym (or-false (bytes_eq id i || (voiding && false)) ∙ ap (λ b. bytes_eq id i || b) (and-false voiding) ∙ or-false (bytes_eq id i))
reference_split voiding id (key.Voiding i) = sym (or-false (voiding && bytes_eq id i))
reference_split voiding id key.AnyReference = sym (ap (λ b. b || true) (and-false voiding))
reference_split voiding id _ = sym (ap (λ b. b || false) (and-false voiding))

pub no_reference : (voiding : Bool) (k : Key) → reference_keys voiding None k ≡ false
no_reference voiding (key.Reference id) = refl
no_reference voiding (key.Voiding id) = and-false voiding
no_reference voiding key.AnyReference = refl
no_reference voiding _ = refl

-- ---- all of them

with_authority : (d p c n : Bool) → (d || ((p || c) || n)) ≡ (((d || (c || n)) || p) || false)
with_authority true p c n = refl
with_authority false true true n = refl
with_authority false true false true = refl
with_authority false true false false = refl
with_authority false false true n = refl
with_authority false false false true = refl
with_authority false false false false = refl

pub whole_split : (s : StoredStatement) (k : Key)
    → has_key k s ≡ ((own_keys s k || (role_keys (view s.received) k || authority_keys s.authority k)) || reference_keys (is_voiding (view s.received)) (target_of (view s.received)) k)
unfolding has_activity
whole_split s (key.Statement id) = plain false (bytes_eq s.id id)
whole_split s (key.Verb id) = plain false (bytes_eq (verb_of (view s.received)) id)
whole_split s (key.Activity id) = sym (or-false (is_about id (view s.received) || false))
whole_split s (key.RelatedActivity id) =
    plain false (is_about id (view s.received) || (has_some_context_activity id (view s.received) || has_member_that (codes "object") (nested_has_activity id) (view s.received)))
whole_split s (key.Agent ifi) = sym (or-false (has_direct_agent ifi (view s.received) || false))
whole_split s (key.RelatedAgent ifi) =
    with_authority (has_direct_agent ifi (view s.received)) (is_party ifi (authority_json s.authority)) (has_context_agent ifi (view s.received)) (has_member_that (codes "object") (nested_has_agent ifi) (view s.received))
whole_split s (key.Registration id) = plain false (is_registered id s)
whole_split s (key.Provider number) = sym (or-false (is_of_provider number s.authority))
whole_split s (key.Reference id) = refl
whole_split s (key.Voiding id) = refl
whole_split s key.AnyReference = refl
