use Rattle.std.proofs.Common.{◌≡◌, drop, map}
use Rattle.std.specs.Prelude.{nat_le}
use Rattle.std.specs.List.{list_all}
use Rattle.cmi5_course.specs.SpelledNodes.{seen}
use Rattle.cmi5_course.specs.declared.rules.TheConstants.{DEEPEST}
use Rattle.cmi5_course.proofs.rules.are_shallow.Given as goal

abbrev pub invariant-loop-node : goal.invariant-loop-node
invariant-loop-node l =
    list_all (λ node. nat_le node.depth DEEPEST) (map seen l.nodes)
    ≡ list_all (λ node. nat_le node.depth DEEPEST) (map seen (drop l.node-index l.nodes))
