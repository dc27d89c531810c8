use Rattle.std.proofs.Common.{◌≡◌, ◌-◌, ◌++◌}
use Rattle.cmi5_verdict.specs.Nodes.{from_depth}
use Rattle.cmi5_verdict.proofs.owing.deeper_first.Given as goal

abbrev pub invariant-loop-less : goal.invariant-loop-less
invariant-loop-less l = l.ordered.items ++ from_depth l.nodes l.indices (l.deepest - l.less) ≡ from_depth l.nodes l.indices l.deepest
