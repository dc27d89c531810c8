use Rattle.std.proofs.Common.{Option, OnOk, false, subst}
use Rattle.std.specs.Option.{option_map_or}
use Rattle.lrs_json.specs.Json.{Json}
use Rattle.xapi_query.specs.XapiFormatParty.{is_party}
use Rattle.xapi_statement_keys.specs.Adding.{Adds, agent_keys}
use Rattle.xapi_statement_keys.proofs.Growing.{adds_none}
use Rattle.xapi_statement_keys.proofs.Named.{agents_none}
use Rattle.xapi_statement_keys.proofs.parties.push_party_at.Goals as goal

pub returns-in-Some : goal.returns-in-Some
returns-in-Some c =
    subst (λ (o : Option Json). OnOk c.push_party.result (Adds c.args.keys.now.items c.push_party.new.keys.items (agent_keys c.args.direct (λ ifi. option_map_or (is_party ifi) o false))))
    c.in-Some.ensures c.push_party.ensures

pub returns-in-None : goal.returns-in-None
returns-in-None c =
    let keys = c.args.keys.now.items in
    subst (λ (o : Option Json). Adds keys keys (agent_keys c.args.direct (λ ifi. option_map_or (is_party ifi) o false))) c.in-None.ensures
    (adds_none keys (agent_keys c.args.direct (λ ifi. false)) (agents_none c.args.direct))
