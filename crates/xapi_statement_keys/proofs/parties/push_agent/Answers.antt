-- The plain key, in a direct role, and the related one.
use Rattle.std.proofs.Common.{◌&&◌}
use Rattle.std.proofs.lemmas.Result.{on_ok_weaker}
use Rattle.lrs_agents.specs.Identifiers.{same_ifi}
use Rattle.xapi_statement_keys.specs.Adding.{agent_keys, same_parts}
use Rattle.xapi_statement_keys.specs.declared.key.Key.TheVariants as key
use Rattle.xapi_statement_keys.proofs.Growing.{adds_both}
use Rattle.xapi_statement_keys.proofs.Named.{agent_split}
use Rattle.xapi_statement_keys.proofs.parties.push_agent.Goals as goal

pub returns : goal.returns
returns c =
    let direct = c.args.direct in
    let ifi = c.args.ifi in
    on_ok_weaker c.push.result
    (λ adds. adds_both c.args.keys.now.items c.push_plain_agent.new.keys.items c.push.new.keys.items (λ k. direct && same_parts (key.Agent ifi) k) (λ k. same_parts (key.RelatedAgent ifi) k)
    (agent_keys direct (λ other. same_ifi other ifi)) (agent_split direct ifi) c.in_ok-push_plain_agent.ensures adds)
    c.push.ensures
