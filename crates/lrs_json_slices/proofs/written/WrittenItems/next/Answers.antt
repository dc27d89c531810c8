use Rattle.std.proofs.Common.{sym, ◌∙◌}
use Rattle.lrs_json_slices.proofs.Firsts.{items_end}
use Rattle.lrs_json_slices.proofs.Nexts.{fewer_items, item_seen, next_item}
use Rattle.lrs_json_slices.proofs.written.WrittenItems.next.Goals as goal

pub returns-then-begins_with-clause-next : goal.returns-then-begins_with-clause-next
returns-then-begins_with-clause-next c =
    let first = c.if-begins_with.ensures in
    let none = sym c.self.view_is ∙ items_end c.self.inside.bytes.now first.0 c.self.inside.spelled first.1 in
    (none, none)

pub invariant_of-self-inside : goal.invariant_of-self-inside
invariant_of-self-inside c =
    ((next_item c.self.inside.bytes.now c.split_item.result.0.now c.split_item.result.1.now c.self.inside.spelled c.if-begins_with.ensures c.split_item.ensures.item).1, tt)

pub invariant_of-result : goal.invariant_of-result
invariant_of-result c =
    ((next_item c.self.inside.bytes.now c.split_item.result.0.now c.split_item.result.1.now c.self.inside.spelled c.if-begins_with.ensures c.split_item.ensures.item).0, tt)

pub returns-clause-next : goal.returns-clause-next
returns-clause-next c =
    sym c.self.view_is
    ∙ item_seen c.self.inside.bytes.now c.split_item.result.0.now c.split_item.result.1.now c.self.inside.spelled c.if-begins_with.ensures c.split_item.ensures.item c.result-1.given.0 c.left-2-1.given.0

pub returns-clause-fewer : goal.returns-clause-fewer
returns-clause-fewer c =
    let inside = c.self.inside in
    let next = next_item inside.bytes.now c.split_item.result.0.now c.split_item.result.1.now inside.spelled c.if-begins_with.ensures c.split_item.ensures.item in
    fewer_items c.args.self.now _ _
    (sym c.self.view_is ∙ item_seen inside.bytes.now c.split_item.result.0.now c.split_item.result.1.now inside.spelled c.if-begins_with.ensures c.split_item.ensures.item next.0 c.left-2-1.given.0)
