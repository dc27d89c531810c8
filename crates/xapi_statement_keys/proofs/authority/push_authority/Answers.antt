-- Its Agent's key, and the provider's.
use Rattle.std.proofs.Common.{false}
use Rattle.std.proofs.lemmas.Result.{on_ok_weaker}
use Rattle.lrs_agents.specs.Identifiers.{same_ifi}
use Rattle.xapi_statement_keys.specs.Adding.{agent_keys, authority_keys, provider_in, provider_keys}
use Rattle.xapi_statement_keys.proofs.Growing.{adds_both}
use Rattle.xapi_statement_keys.proofs.Whole.{authority_split}
use Rattle.xapi_statement_keys.proofs.authority.push_authority.Goals as goal

pub returns : goal.returns
returns c =
    let a = c.args.authority.now in
    let account = c.in_ok-account.account in
    on_ok_weaker c.push_provider.result
    (λ adds. adds_both c.args.keys.now.items c.push_agent.new.keys.items c.push_provider.new.keys.items (agent_keys false (λ other. same_ifi other account)) (provider_keys (provider_in a))
    (authority_keys a) (authority_split a account c.in_ok-account.ensures) c.in_ok-push_agent.ensures adds)
    c.push_provider.ensures
