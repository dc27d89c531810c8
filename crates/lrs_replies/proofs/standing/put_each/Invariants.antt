use Rattle.std.proofs.Common.{◌≡◌, ◌++◌, false}
use Rattle.lrs_replies.specs.Standings.{nodes_of, nodes_text}
use Rattle.lrs_replies.proofs.standing.put_each.Given as goal

-- what is written and what is left are the whole text
abbrev pub invariant-loop-node : goal.invariant-loop-node
invariant-loop-node l =
    l.body.items ++ nodes_text l.later (nodes_of l.node-iterator.a.rest.now l.node-iterator.b.rest.now)
    ≡ l.fn.body.items ++ nodes_text false (nodes_of l.nodes l.verdicts)
