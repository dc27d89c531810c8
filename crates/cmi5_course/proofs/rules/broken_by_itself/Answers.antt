use Rattle.std.proofs.Common.{◌+◌, map, drop, ap}
use Rattle.std.specs.List.{flat_map}
use Rattle.cmi5_course.specs.SpelledNodes.{seen}
use Rattle.cmi5_course.specs.Rules.{node_faults}
use Rattle.lrs_json.proofs.Lists.{drop_item}
use Rattle.lrs_names.proofs.RuleLemmas.{one_more}
use Rattle.cmi5_course.proofs.rules.broken_by_itself.Goals as goal

pub loop-node-preserved : goal.loop-node-preserved
loop-node-preserved c =
    let e = drop_item c.args.nodes.now c.loop-node.node-index c.node-item.result c.loop-node-test.true c.node-item.is in
    one_more (flat_map node_faults (map seen c.args.nodes.now))
    (flat_map node_faults (map seen (drop c.loop-node.node-index c.args.nodes.now)))
    (node_faults (seen c.node-item.result)) (flat_map node_faults (map seen (drop
    (c.loop-node.node-index + 1) c.args.nodes.now)))
    c.loop-node.broken c.in_ok-broken_node.field-0 c.lesser-broken.result
    c.loop-node.invariant
    (ap (λ z. flat_map node_faults (map seen z)) e) c.in_ok-broken_node.ensures c.lesser-broken.ensures
