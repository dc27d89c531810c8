use Rattle.std.proofs.Common.{Option, OnOk, false, sym, ◌∙◌, subst}
use Rattle.std.specs.Option.{option_map_or}
use Rattle.lrs_agents.specs.Identifiers.{same_ifi}
use Rattle.lrs_agents.specs.declared.identifiers.Ifi.{Ifi}
use Rattle.xapi_query.specs.XapiFormatParty.{is_identified}
use Rattle.xapi_statement_keys.specs.Adding.{Adds, agent_keys}
use Rattle.xapi_statement_keys.proofs.Growing.{adds_none}
use Rattle.xapi_statement_keys.proofs.Named.{agents_none}
use Rattle.xapi_statement_keys.proofs.parties.push_identified.Goals as goal

pub returns-in-Some : goal.returns-in-Some
unfolding is_identified
returns-in-Some c =
    subst (λ (o : Option Ifi). OnOk c.push_agent.result (Adds c.args.keys.now.items c.push_agent.new.keys.items (agent_keys c.args.direct (λ ifi. option_map_or (same_ifi ifi) o false))))
    (sym c.in-Some.is ∙ c.in_ok-found.ensures) c.push_agent.ensures

pub returns-in-None : goal.returns-in-None
unfolding is_identified
returns-in-None c =
    let keys = c.args.keys.now.items in
    subst (λ (o : Option Ifi). Adds keys keys (agent_keys c.args.direct (λ ifi. option_map_or (same_ifi ifi) o false)))
    (sym c.in-None.is ∙ c.in_ok-found.ensures) (adds_none keys (agent_keys c.args.direct (λ ifi. false)) (agents_none c.args.direct))
