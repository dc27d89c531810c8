use Rattle.std.proofs.Common.{◌+◌, map, drop, ap}
use Rattle.lrs_json.specs.View.{view, elements_of}
use Rattle.xapi_rules.specs.Contexts.{faults_of_activities, context_activity_faults}
use Rattle.lrs_json.proofs.Lists.{drop_item}
use Rattle.lrs_names.proofs.RuleLemmas.{one_more}
use Rattle.xapi_rules.proofs.contexts.broken_items.Goals as goal

pub loop-item-preserved : goal.loop-item-preserved
unfolding faults_of_activities
loop-item-preserved c =
    let e = drop_item c.args.items.now c.loop-item.item-index c.item-item.result c.loop-item-test.true c.item-item.is in
    one_more (faults_of_activities (elements_of (map view c.args.items.now)))
    (faults_of_activities (elements_of (map view (drop c.loop-item.item-index c.args.items.now)))) (context_activity_faults (view c.item-item.result))
    (faults_of_activities (elements_of (map view (drop (c.loop-item.item-index + 1) c.args.items.now)))) c.loop-item.broken c.in_ok-broken_context_activity.field-0 c.lesser-broken.result
    c.loop-item.invariant (ap (λ z. faults_of_activities (elements_of (map view z))) e) c.in_ok-broken_context_activity.ensures c.lesser-broken.ensures
