-- One activity more.
use Rattle.std.proofs.Common.{◌+◌, drop, false}
use Rattle.lrs_json.specs.View.{view}
use Rattle.xapi_query.specs.XapiStatementStatement.{is_activity_of}
use Rattle.xapi_statement_keys.specs.Adding.{activity_keys}
use Rattle.xapi_statement_keys.proofs.Growing.{so_far_all, so_far_more, so_far_none}
use Rattle.xapi_statement_keys.proofs.Named.{held_keys, next_held, no_held}
use Rattle.xapi_statement_keys.proofs.activities.push_each_activity.Goals as goal

pub loop-item-init : goal.loop-item-init
loop-item-init c = so_far_none c.args.keys.now.items (held_keys c.args.items.now)

pub loop-item-preserved : goal.loop-item-preserved
loop-item-preserved c =
    let at = c.loop-item in
    let items = c.args.items.now in
    let item = c.item-item.result in
    so_far_more c.args.keys.now.items at.keys.items c.push_activity.new.keys.items (held_keys (drop at.item-index items)) (activity_keys false (λ id. is_activity_of id (view item)))
    (held_keys (drop (at.item-index + 1) items)) (held_keys items) (next_held items at.item-index item c.loop-item-test.true c.item-item.is)
    c.in_ok-push_activity.ensures at.invariant

pub returns : goal.returns
returns c =
    let at = c.loop-item in
    let items = c.args.items.now in
    so_far_all c.args.keys.now.items at.keys.items (held_keys (drop at.item-index items)) (held_keys items) (no_held items at.item-index c.loop-item-test.false) at.invariant
