use Rattle.std.proofs.Common.{Option, OnOk, false, subst}
use Rattle.std.specs.Option.{option_map_or}
use Rattle.lrs_json.specs.Json.{Elements, Json}
use Rattle.xapi_query.specs.XapiFormatParty.{any_identified, has_identified}
use Rattle.xapi_statement_keys.specs.Adding.{Adds, agent_keys}
use Rattle.xapi_statement_keys.proofs.Growing.{adds_none}
use Rattle.xapi_statement_keys.proofs.Named.{agents_none}
use Rattle.xapi_statement_keys.proofs.parties.push_members.Goals as goal

pub returns-in-Some : goal.returns-in-Some
returns-in-Some c =
    let old = c.args.keys.now.items in
    let new = c.push_each_member.new.keys.items in
    subst (λ (o : Option Json). OnOk c.push_each_member.result (Adds old new (agent_keys c.args.direct (λ ifi. option_map_or (has_identified ifi) o false)))) c.in-Some.ensures
    (subst (λ (js : Elements). OnOk c.push_each_member.result (Adds old new (agent_keys c.args.direct (λ ifi. any_identified ifi js)))) c.items_in.ensures c.push_each_member.ensures)

pub returns-in-None : goal.returns-in-None
returns-in-None c =
    let keys = c.args.keys.now.items in
    subst (λ (o : Option Json). Adds keys keys (agent_keys c.args.direct (λ ifi. option_map_or (has_identified ifi) o false))) c.in-None.ensures
    (adds_none keys (agent_keys c.args.direct (λ ifi. false)) (agents_none c.args.direct))
