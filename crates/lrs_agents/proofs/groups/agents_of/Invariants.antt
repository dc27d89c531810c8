use Rattle.lrs_agents.proofs.AgentLemmas.{AgentsSoFar}
use Rattle.lrs_agents.proofs.groups.agents_of.Given as goal

abbrev pub invariant-loop-item : goal.invariant-loop-item
invariant-loop-item l = AgentsSoFar l.items l.item-index l.agents
