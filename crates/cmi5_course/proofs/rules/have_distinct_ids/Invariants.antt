use Rattle.std.proofs.Common.{drop, map}
use Rattle.std.specs.List.{flat_map}
use Rattle.lrs_json.proofs.Sets.{SetSoFar}
use Rattle.cmi5_course.specs.SpelledNodes.{seen}
use Rattle.cmi5_course.specs.Rules.{ids_of}
use Rattle.cmi5_course.proofs.rules.have_distinct_ids.Given as goal

abbrev pub invariant-loop-node : goal.invariant-loop-node
invariant-loop-node l =
    SetSoFar l.ids (flat_map ids_of (map seen (drop l.node-index l.nodes))) (flat_map ids_of (map seen l.nodes))
