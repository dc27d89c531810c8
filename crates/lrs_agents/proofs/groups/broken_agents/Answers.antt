-- The next item's rules are joined to those of the items before it.
use Rattle.lrs_agents.proofs.AgentLemmas.{more_faults}
use Rattle.lrs_agents.proofs.groups.broken_agents.Goals as goal

pub loop-item-preserved : goal.loop-item-preserved
loop-item-preserved c = more_faults _ _ _ _ c.args.items.now c.loop-item.item-index c.item-item.result c.loop-item-test.true c.item-item.is c.broken.ensures.least c.lesser-found.ensures c.loop-item.invariant
