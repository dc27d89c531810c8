use Rattle.std.proofs.Common.{◌≡◌, ◌+◌, ◌≤◌, drop, map}
use Rattle.std.specs.List.{count_by}
use Rattle.cmi5_course.specs.SpelledNodes.{seen}
use Rattle.cmi5_course.specs.Rules.{is_unit_node}
use Rattle.cmi5_course.proofs.rules.unit_count.Given as goal

abbrev pub invariant-loop-node : goal.invariant-loop-node
invariant-loop-node l =
    (l.units ≤ l.node-index)
    × (count_by is_unit_node (map seen l.nodes) ≡ l.units + count_by is_unit_node (map seen
    (drop l.node-index l.nodes)))
