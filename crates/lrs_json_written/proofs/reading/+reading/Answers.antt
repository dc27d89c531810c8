use Rattle.std.proofs.Common.{[], ◌∙◌, ap, subst, rules, arith}
use Rattle.lrs_json.specs.Names.{are_new}
use Rattle.lrs_json.specs.declared.tree.Tree.{the_lemmas}
use Rattle.lrs_json_written.specs.Fitting.{names_in}
use Rattle.lrs_json_written.proofs.Objects.{MembersSoFar, member_done, members_begun, members_done, members_fault, members_next, members_unopened, next_done, next_fault, object_again, object_deep, object_done, object_fault}
use Rattle.lrs_json_written.proofs.Objects as objects
use Rattle.lrs_json_written.proofs.Readings.{ItemsSoFar, item_done, item_fault, items_begun, items_done, items_fault, items_next, items_unopened, list_deep, list_done, list_fault, next_shorter}
use Rattle.lrs_json_written.proofs.reading.+reading.Goals as goal

-- ---- arrays

pub list-returns-then-depth-eq0 : goal.list-returns-then-depth-eq0
list-returns-then-depth-eq0 t c = list_deep c.args.depth _ _ _ _ c.if-depth-eq0.true c.requires.1

pub list-returns-in_err-items : goal.list-returns-in_err-items
list-returns-in_err-items t c = list_fault c.args.depth _ _ _ _ _ c.requires.1 c.from_residual.ensures.1 c.in_err-items.ensures

pub list-returns : goal.list-returns
list-returns t c = list_done c.args.depth _ _ _ c.in_ok-items.field-0 c.requires.1 (omega arith) c.in_ok-items.ensures

pub items-returns-in_err-word : goal.items-returns-in_err-word
items-returns-in_err-word t c = items_unopened c.args.depth _ _ _ _ c.from_residual.ensures.1 c.in_err-word.ensures.all

pub items-loop-goes-init : goal.items-loop-goes-init
items-loop-goes-init t c = rw c.new-items.ensures (items_begun c.args.depth _ _ _ _ c.in_ok-word.ensures.found c.take-goes.ensures)

pub items-loop-goes-preserved : goal.items-loop-goes-preserved
items-loop-goes-preserved t c =
    let so = subst (λ z. ItemsSoFar c.args.depth c.args.cursor.now z c.loop-goes.items c.loop-goes.cursor) c.loop-goes-test.true c.loop-goes.invariant in
    items_next c.args.depth _ _ _ _ _ c.in_ok-goes.goes so c.in_ok-goes.ensures

pub items-loop-goes-smaller : goal.items-loop-goes-smaller
items-loop-goes-smaller t c = next_shorter c.args.depth _ _ _ _ _ c.in_ok-goes.ensures

pub items-returns-in_err-goes : goal.items-returns-in_err-goes
items-returns-in_err-goes t c =
    let so = subst (λ z. ItemsSoFar c.args.depth c.args.cursor.now z c.loop-goes.items c.loop-goes.cursor) c.loop-goes-test.true c.loop-goes.invariant in
    items_fault c.args.depth _ _ _ _ _ _ _ _ c.from_residual-in_err-goes.ensures.1 so c.in_err-goes.ensures

pub items-returns : goal.items-returns
items-returns t c =
    let so = subst (λ z. ItemsSoFar c.args.depth c.args.cursor.now z c.loop-goes.items c.loop-goes.cursor) c.loop-goes-test.false c.loop-goes.invariant in
    items_done c.args.depth _ _ c.loop-goes.items so

pub next_item-returns-in_err-value : goal.next_item-returns-in_err-value
next_item-returns-in_err-value t c = item_fault c.args.depth _ _ _ _ _ c.from_residual.ensures.1 c.in_err-value.ensures

pub next_item-returns : goal.next_item-returns
next_item-returns t c = item_done c.args.depth _ _ c.in_ok-value.field-0 _ _ _ _ c.in_ok-push.ensures.ok c.in_ok-value.ensures c.comma_or.ensures.steps

-- ---- objects

pub object-returns-then-depth-eq0 : goal.object-returns-then-depth-eq0
object-returns-then-depth-eq0 t c = object_deep c.args.depth _ _ _ _ c.if-depth-eq0.true c.requires.1

pub object-returns-in_err-members : goal.object-returns-in_err-members
object-returns-in_err-members t c = object_fault c.args.depth _ _ _ _ _ c.requires.1 c.from_residual.ensures.1 c.in_err-members.ensures

pub members-returns-in_err-word : goal.members-returns-in_err-word
members-returns-in_err-word t c = members_unopened c.args.depth _ _ _ _ c.from_residual.ensures.1 c.in_err-word.ensures.all

pub members-loop-goes-init : goal.members-loop-goes-init
members-loop-goes-init t c = rw c.new-members.ensures (members_begun c.args.depth _ _ _ _ c.in_ok-word.ensures.found c.take-goes.ensures)

pub members-loop-goes-preserved : goal.members-loop-goes-preserved
members-loop-goes-preserved t c =
    let so = subst (λ z. MembersSoFar c.args.depth c.args.cursor.now z c.loop-goes.members c.loop-goes.cursor) c.loop-goes-test.true c.loop-goes.invariant in
    members_next c.args.depth _ _ _ _ _ c.in_ok-goes.goes so c.in_ok-goes.ensures

pub members-loop-goes-smaller : goal.members-loop-goes-smaller
members-loop-goes-smaller t c = objects.next_shorter c.args.depth _ _ _ _ _ c.in_ok-goes.ensures

pub members-returns-in_err-goes : goal.members-returns-in_err-goes
members-returns-in_err-goes t c =
    let so = subst (λ z. MembersSoFar c.args.depth c.args.cursor.now z c.loop-goes.members c.loop-goes.cursor) c.loop-goes-test.true c.loop-goes.invariant in
    members_fault c.args.depth _ _ _ _ _ _ _ _ c.from_residual-in_err-goes.ensures.1 so c.in_err-goes.ensures

pub members-returns : goal.members-returns
members-returns t c =
    let so = subst (λ z. MembersSoFar c.args.depth c.args.cursor.now z c.loop-goes.members c.loop-goes.cursor) c.loop-goes-test.false c.loop-goes.invariant in
    members_done c.args.depth _ _ c.loop-goes.members so

pub next_member-returns-in_err-member : goal.next_member-returns-in_err-member
next_member-returns-in_err-member t c = next_fault c.args.depth _ _ _ _ _ c.from_residual.ensures.1 c.in_err-member.ensures

pub next_member-returns : goal.next_member-returns
next_member-returns t c = next_done c.args.depth _ _ c.in_ok-member.field-0 _ _ _ _ c.in_ok-push.ensures.ok c.in_ok-member.ensures c.comma_or.ensures.steps

pub member-returns : goal.member-returns
member-returns t c =
    member_done c.args.depth _ c.in_ok-name.name _ _ _ _ c.in_ok-value.value (search (rules, the_lemmas)) c.in_ok-name.ensures.found.0 c.in_ok-name.ensures.found.1 c.in_ok-word.ensures.found c.in_ok-value.ensures

pub object-returns-then-not-branch : goal.object-returns-then-not-branch
object-returns-then-not-branch t c =
    object_again c.args.depth _ _ _ _ c.in_ok-members.members c.in_ok-have_distinct_names.field-0 _ c.requires.1 c.in_ok-members.ensures (c.in_ok-have_distinct_names.ensures ∙ ap (λ ms. are_new [] (names_in ms)) c.as_slice.ensures) c.if-not-branch.true

pub object-returns : goal.object-returns
object-returns t c =
    object_done c.args.depth _ _ _ c.in_ok-members.members c.in_ok-have_distinct_names.field-0 c.requires.1 (omega arith) c.in_ok-members.ensures
    (c.in_ok-have_distinct_names.ensures ∙ ap (λ ms. are_new [] (names_in ms)) c.as_slice.ensures) c.if-not-branch.false

-- ---- a value

pub value-returns-in_default : goal.value-returns-in_default
value-returns-in_default t c = c.leaf.ensures c.args.depth
