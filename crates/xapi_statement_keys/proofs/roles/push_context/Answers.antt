use Rattle.std.proofs.Common.{Option, OnOk, false, subst}
use Rattle.std.specs.Option.{option_map_or}
use Rattle.lrs_json.specs.Json.{Json}
use Rattle.xapi_query.specs.XapiStatementParties.{has_context_agent, is_party_of_context}
use Rattle.xapi_query.specs.XapiStatementStatement.{has_context_activity, has_some_context_activity}
use Rattle.xapi_statement_keys.specs.Adding.{Adds, named_keys}
use Rattle.xapi_statement_keys.proofs.Growing.{adds_none}
use Rattle.xapi_statement_keys.proofs.Named.{context_held_in, named_none}
use Rattle.xapi_statement_keys.proofs.roles.push_context.Goals as goal

pub returns-in-Some : goal.returns-in-Some
unfolding has_context_agent has_some_context_activity has_context_activity
returns-in-Some c =
    subst (λ (o : Option Json). OnOk c.push_of_context.result (Adds c.args.keys.now.items c.push_of_context.new.keys.items
    (named_keys false (λ ifi. option_map_or (is_party_of_context ifi) o false) (λ id. context_held_in id o)))) c.in-Some.ensures c.push_of_context.ensures

pub returns-in-None : goal.returns-in-None
unfolding has_context_agent has_some_context_activity has_context_activity
returns-in-None c =
    let keys = c.args.keys.now.items in
    subst (λ (o : Option Json). Adds keys keys (named_keys false (λ ifi. option_map_or (is_party_of_context ifi) o false) (λ id. context_held_in id o))) c.in-None.ensures
    (adds_none keys (named_keys false (λ ifi. false) (λ id. false)) (named_none false))
