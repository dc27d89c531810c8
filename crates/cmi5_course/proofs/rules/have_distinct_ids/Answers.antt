use Rattle.std.proofs.Common.{◌+◌, ◌∷◌, ◌++◌, map, drop, ap, sym, ◌∙◌}
use Rattle.std.specs.List.{flat_map}
use Rattle.std.specs.Option.{option_to_list}
use Rattle.lrs_json.proofs.Sets.{name_new}
use Rattle.cmi5_course.specs.SpelledNodes.{seen}
use Rattle.cmi5_course.specs.Rules.{ids_of}
use Rattle.lrs_json.proofs.Lists.{drop_item}
use Rattle.cmi5_course.proofs.rules.have_distinct_ids.Goals as goal

pub loop-node-preserved : goal.loop-node-preserved
loop-node-preserved c =
    let later = flat_map ids_of (map seen (drop (c.loop-node.node-index + 1) c.args.nodes.now)) in
    let e = drop_item c.args.nodes.now c.loop-node.node-index c.node-item.result c.loop-node-test.true c.node-item.is in
    name_new c.as_str.result c.loop-node.ids c.insert.new.self _ later _ c.loop-node.invariant
    (ap (λ z. flat_map ids_of (map seen z)) e ∙ ap (λ o. option_to_list o ++ later) (sym c.in-Some.ensures)
    ∙ ap (λ k. k ∷ later) (sym c.as_str.ensures.lent))
    c.in_ok-insert.ensures.updates (sym c.if-not-branch.false ∙ c.in_ok-insert.ensures.added)
