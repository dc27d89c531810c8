-- Each node is made after those before it.
use Rattle.std.proofs.Common.{◌+◌, map, drop, ap, sym, ◌∙◌, ◌++◌}
use Rattle.std.specs.List.{flat_map}
use Rattle.lrs_names.specs.Rules.{least}
use Rattle.cmi5_course.specs.SpelledNodes.{seen}
use Rattle.cmi5_course.specs.Rules.{node_faults}
use Rattle.cmi5_course.specs.Courses.{node_of}
use Rattle.lrs_json.proofs.Lists.{drop_item}
use Rattle.cmi5_course.proofs.Lists.{one_more_node}
use Rattle.cmi5_course.proofs.Unbroken.{more_unbroken}
use Rattle.cmi5_course.proofs.reading.nodes_of.Goals as goal

pub node_of-requires : goal.node_of-requires
node_of-requires c =
    let e =
    drop_item c.args.spelled_nodes.now c.loop-spelled.spelled-index c.spelled-item.result c.loop-spelled-test.true c.spelled-item.is in
    (more_unbroken (seen c.spelled-item.result) (map seen (drop (c.loop-spelled.spelled-index + 1) c.args.spelled_nodes.now))
    (ap (λ z. least (flat_map node_faults (map seen z))) (sym e) ∙ c.loop-spelled.invariant.0)).0

pub loop-spelled-preserved : goal.loop-spelled-preserved
loop-spelled-preserved c =
    let e =
    drop_item c.args.spelled_nodes.now c.loop-spelled.spelled-index c.spelled-item.result c.loop-spelled-test.true c.spelled-item.is in (
      (more_unbroken (seen c.spelled-item.result) (map seen (drop (c.loop-spelled.spelled-index + 1) c.args.spelled_nodes.now))
          (ap (λ z. least (flat_map node_faults (map seen z))) (sym e) ∙ c.loop-spelled.invariant.0)).1,
      one_more_node _ c.loop-spelled.nodes c.push.new.self (seen c.spelled-item.result)
          (map seen (drop (c.loop-spelled.spelled-index + 1) c.args.spelled_nodes.now)) c.in_ok-node_of.field-0
          (c.loop-spelled.invariant.1 ∙ ap (λ z. c.loop-spelled.nodes ++ map node_of
          (map seen z)) e) c.in_ok-node_of.ensures c.in_ok-push.ensures.ok,
    )
