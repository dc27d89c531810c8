use Rattle.std.proofs.Common.{Option, OnOk, false, subst}
use Rattle.std.specs.Option.{option_map_or}
use Rattle.lrs_json.specs.Json.{Json}
use Rattle.xapi_query.specs.XapiStatementParties.{is_party_object}
use Rattle.xapi_query.specs.XapiStatementStatement.{is_about, is_activity_of}
use Rattle.xapi_statement_keys.specs.Adding.{Adds, named_keys}
use Rattle.xapi_statement_keys.proofs.Growing.{adds_none}
use Rattle.xapi_statement_keys.proofs.Named.{named_none}
use Rattle.xapi_statement_keys.proofs.roles.push_nested_object.Goals as goal

pub returns-in-Some : goal.returns-in-Some
unfolding is_about
returns-in-Some c =
    subst (λ (o : Option Json). OnOk c.push_object.result (Adds c.args.keys.now.items c.push_object.new.keys.items
    (named_keys false (λ ifi. option_map_or (is_party_object ifi) o false) (λ id. option_map_or (is_activity_of id) o false)))) c.in-Some.ensures c.push_object.ensures

pub returns-in-None : goal.returns-in-None
unfolding is_about
returns-in-None c =
    let keys = c.args.keys.now.items in
    subst (λ (o : Option Json). Adds keys keys (named_keys false (λ ifi. option_map_or (is_party_object ifi) o false) (λ id. option_map_or (is_activity_of id) o false))) c.in-None.ensures
    (adds_none keys (named_keys false (λ ifi. false) (λ id. false)) (named_none false))
