-- Each item is an agent, and its agent is put after those before it.
use Rattle.lrs_agents.proofs.AgentLemmas.{first_unbroken, no_agents, one_more_agent, all_agents}
use Rattle.lrs_agents.proofs.groups.agents_of.Goals as goal

pub loop-item-init : goal.loop-item-init
loop-item-init c = no_agents _ _ c.requires c.new-agents.ensures

pub of_unbroken-requires : goal.of_unbroken-requires
of_unbroken-requires c = (first_unbroken _ _ _ c.loop-item-test.true c.item-item.is c.loop-item.invariant.unbroken).0

pub loop-item-preserved : goal.loop-item-preserved
loop-item-preserved c =
    one_more_agent _ _ _ _ _ _ c.loop-item-test.true c.item-item.is c.loop-item.invariant c.in_ok-of_unbroken.ensures c.in_ok-push.ensures.ok

pub returns : goal.returns
returns c = all_agents _ _ _ c.loop-item-test.false c.loop-item.invariant
