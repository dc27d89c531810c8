use Rattle.std.proofs.Common.{◌+◌, ◌∷◌, ◌++◌, map, drop, ap, sym, ◌∙◌}
use Rattle.std.specs.Option.{option_to_list}
use Rattle.lrs_json.specs.View.{view, elements_of}
use Rattle.lrs_json.proofs.Sets.{name_new}
use Rattle.xapi_rules.specs.Objects.{ids_of}
use Rattle.lrs_json.proofs.Lists.{drop_item}
use Rattle.xapi_rules.proofs.components.are_distinct.Goals as goal

pub loop-item-preserved : goal.loop-item-preserved
loop-item-preserved c =
    let later = ids_of (elements_of (map view (drop (c.loop-item.item-index + 1) c.args.items.now))) in
    let e = drop_item c.args.items.now c.loop-item.item-index c.item-item.result c.loop-item-test.true c.item-item.is in
    name_new c.as_str.result c.loop-item.ids c.insert.new.self _ later _ c.loop-item.invariant
    (ap (λ z. ids_of (elements_of (map view z))) e ∙ ap (λ o. option_to_list o ++ later) (sym c.in-Some.ensures) ∙ ap (λ k. k ∷ later) (sym c.as_str.ensures.lent))
    c.in_ok-insert.ensures.updates (sym c.if-not-branch.false ∙ c.in_ok-insert.ensures.added)
