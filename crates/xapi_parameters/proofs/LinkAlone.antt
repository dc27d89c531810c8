-- Parameters ask for one link.
use Rattle.std.proofs.Common.{◌≡◌, ℕ, List, Option, Some, None, codes, refl, sym, ap, ◌∙◌}
use Rattle.lrs_json.specs.Json.{Json}
use Rattle.lrs_json.specs.declared.limits.TheConstants.{DEPTH}
use Rattle.lrs_json_reader.specs.Located.{plain}
use Rattle.lrs_json_reader.specs.Refusals.{Spells}
use Rattle.lrs_agents.specs.Identifiers.{identifier_of}
use Rattle.lrs_agents.specs.declared.identifiers.Ifi.{Ifi}
use Rattle.xapi_parameters.specs.Links.{LinksAreReadAlone}
use Rattle.xapi_parameters.specs.Parameters.{given}
use Rattle.xapi_parameters.specs.Queries.{IsActorGiven, IsQuery}
use Rattle.xapi_parameters.specs.Values.{IsActorOf}
use Rattle.xapi_parameters.specs.declared.pair.Pair.{Pair}
use Rattle.xapi_query.specs.declared.query.Given.{Given}
use Rattle.xapi_query.specs.declared.query.Query.{Query}
use Rattle.xapi_parameters.proofs.OneJson.{one_json}

one_value : (text : List ℕ) (j k : Json) → Spells DEPTH text j → Spells DEPTH text k → j ≡ k
one_value text j k a b = sym a.is ∙ ap plain (one_json text a.located b.located a.spelled b.spelled) ∙ b.is

pub one_actor : (text : List ℕ) (a b : Ifi) → IsActorOf text a → IsActorOf text b → a ≡ b
one_actor text a b x y =
    let same = one_value text x.0 y.0 x.1 y.1 in
    let both : ◌≡◌ {A = Option Ifi} (Some a) (Some b) = sym x.3 ∙ ap identifier_of same ∙ y.3 in cc both

same_given : (a b : Given Ifi) → a.text ≡ b.text → a.value ≡ b.value → a ≡ b
same_given a b text value = λ i. record { text = text i; value = value i }

agent_alone : (text : Option (List ℕ)) (a b : Option (Given Ifi)) → IsActorGiven text a → IsActorGiven text b → a ≡ b
agent_alone None None None x y = refl
agent_alone None None (Some b) x y = absurd y
agent_alone None (Some a) b x y = absurd x
agent_alone (Some t) None b x y = absurd x
agent_alone (Some t) (Some a) None x y = absurd y
agent_alone (Some t) (Some a) (Some b) x y = ap Some (same_given a b (x.0 ∙ sym y.0) (one_actor t a.value b.value x.1 y.1))

pub query_alone : (pairs : List Pair) (a b : Query) → IsQuery pairs a → IsQuery pairs b → a ≡ b
query_alone pairs a b x y =
    let agent = agent_alone (given (codes "agent") pairs) a.agent b.agent x.agent_is y.agent_is in
    let verb = x.verb_is ∙ sym y.verb_is in
    let activity = x.activity_is ∙ sym y.activity_is in
    let registration = x.registration_is ∙ sym y.registration_is in
    let agents = x.agents_are ∙ sym y.agents_are in
    let activities = x.activities_are ∙ sym y.activities_are in
    let since = x.since_is ∙ sym y.since_is in
    let until = x.until_is ∙ sym y.until_is in
    let page = x.page_is ∙ sym y.page_is in
    let order = x.order_is ∙ sym y.order_is in
    let format = x.format_is ∙ sym y.format_is in
    λ i. record {
      agent = agent i;
      verb = verb i;
      activity = activity i;
      registration = registration i;
      related_agents = agents i;
      related_activities = activities i;
      since = since i;
      until = until i;
      page = page i;
      ascending = order i;
      format = format i;
    }

pub links_alone : LinksAreReadAlone
links_alone pairs a b x y =
    let query = query_alone pairs a.query b.query x.query_is y.query_is in
    let asof = x.asof_is ∙ sym y.asof_is in
    let after = x.after_is ∙ sym y.after_is in
    λ i. record { query = query i; asof = asof i; after = after i }
