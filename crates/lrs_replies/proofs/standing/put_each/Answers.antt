use Rattle.lrs_replies.proofs.Standings.{last_node}
use Rattle.lrs_replies.proofs.standing.put_each.Goals as goal

pub returns : goal.returns
returns c =
    last_node _ _ c.loop-node.later c.loop-node.node-iterator.a.rest.now c.loop-node.node-iterator.b.rest.now _ c.in-None.ensures.steps
    c.in_ok-push.ensures.items c.loop-node.invariant
