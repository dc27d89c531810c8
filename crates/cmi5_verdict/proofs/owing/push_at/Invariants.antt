use Rattle.std.proofs.Common.{◌≡◌, ◌++◌, drop}
use Rattle.cmi5_verdict.specs.Nodes.{at_depth}
use Rattle.cmi5_verdict.proofs.owing.push_at.Given as goal

abbrev pub invariant-loop-index : goal.invariant-loop-index
invariant-loop-index l = l.ordered.items ++ at_depth l.nodes (drop l.index-index l.indices) l.depth ≡ l.fn.ordered.items ++ at_depth l.nodes l.indices l.depth
