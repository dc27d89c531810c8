use Rattle.std.proofs.Common.{◌≡◌, ◌++◌, None, drop, map}
use Rattle.std.specs.List.{flat_map}
use Rattle.lrs_names.specs.Rules.{least}
use Rattle.cmi5_course.specs.SpelledNodes.{seen}
use Rattle.cmi5_course.specs.Rules.{node_faults}
use Rattle.cmi5_course.specs.Courses.{node_of}
use Rattle.cmi5_course.proofs.reading.nodes_of.Given as goal

abbrev pub invariant-loop-spelled : goal.invariant-loop-spelled
invariant-loop-spelled l =
    (least (flat_map node_faults (map seen (drop l.spelled-index l.spelled_nodes))) ≡ None)
    × (map node_of (map seen l.spelled_nodes) ≡ l.nodes ++ map node_of (map seen (drop l.spelled-index l.spelled_nodes)))
