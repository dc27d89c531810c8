-- What is said of the value holds of the tree.
use Rattle.std.proofs.Common.{◌≡◌, None, rules, sym, subst}
use Rattle.lrs_json.specs.Json.{Json}
use Rattle.lrs_json.specs.View.{view}
use Rattle.lrs_agents.specs.Agents.{agent_faults}
use Rattle.lrs_agents.specs.Readings.{IsAgentOf}
use Rattle.lrs_agent_texts.specs.Texts.{agent_json}
use Rattle.lrs_names.specs.Rules.{least}
use Rattle.lrs_agent_texts.proofs.AgentTexts.{agent_json-IsAgentOf, agent_json-unbroken}
use Rattle.lrs_agent_texts.proofs.texts.agent_tree.Goals as goal

pub returns-clause-agent : goal.returns-clause-agent
returns-clause-agent c =
    let same : view c.whole.result ≡ agent_json c.args.agent.now = search rules in
    subst (λ (j : Json). IsAgentOf j c.args.agent.now) (sym same) (agent_json-IsAgentOf c.args.agent.now)

pub returns-clause-unbroken : goal.returns-clause-unbroken
returns-clause-unbroken c = λ is.
    let same : view c.whole.result ≡ agent_json c.args.agent.now = search rules in
    subst (λ (j : Json). least (agent_faults j) ≡ None) (sym same) (agent_json-unbroken c.args.agent.now is)
