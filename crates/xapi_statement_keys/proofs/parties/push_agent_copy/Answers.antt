use Rattle.std.proofs.Common.{OnOk, subst}
use Rattle.lrs_agents.specs.declared.identifiers.Ifi.{Ifi}
use Rattle.xapi_statement_keys.specs.Adding.{Adds, same_parts}
use Rattle.xapi_statement_keys.specs.declared.key.Key.TheVariants as key
use Rattle.xapi_statement_keys.proofs.parties.push_agent_copy.Goals as goal

pub returns : goal.returns
returns c =
    subst (λ (ifi : Ifi). OnOk c.push.result (Adds c.args.keys.now.items c.push.new.keys.items (λ k. same_parts (key.Agent ifi) k))) c.in_ok-copy.ensures c.push.ensures
