use Rattle.std.proofs.Common.{◌≡◌, drop, map}
use Rattle.std.specs.List.{flat_map}
use Rattle.lrs_names.specs.Rules.{least, lesser}
use Rattle.cmi5_course.specs.SpelledNodes.{seen}
use Rattle.cmi5_course.specs.Rules.{node_faults}
use Rattle.cmi5_course.proofs.rules.broken_by_itself.Given as goal

abbrev pub invariant-loop-node : goal.invariant-loop-node
invariant-loop-node l =
    least (flat_map node_faults (map seen l.nodes))
    ≡ lesser l.broken (least (flat_map node_faults (map seen (drop l.node-index l.nodes))))
