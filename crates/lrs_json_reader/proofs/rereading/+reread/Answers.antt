use Rattle.std.proofs.Common.{◌∙◌, subst, rules}
use Rattle.lrs_json.specs.declared.tree.Tree.{the_lemmas}
use Rattle.lrs_json_reader.proofs.Parts.{err_finds}
use Rattle.lrs_json_reader.proofs.Rereads.{leaf_again, ListAgain, list_begun, list_fault, list_done, item_again, item_fault, ObjectAgain, object_begun, object_fault, object_done, members_again, members_fault, name_at, value_at, member_done}
use Rattle.lrs_json_reader.proofs.rereading.+reread.Goals as goal

pub value-returns-in_default-clause-again : goal.value-returns-in_default-clause-again
value-returns-in_default-clause-again t c = leaf_again _ _ _ c.leaf.ensures.again

pub list-loop-goes-init : goal.list-loop-goes-init
list-loop-goes-init t c = rw c.new-items.ensures (list_begun _ _ _ _ _ c.requires.1 c.advance.ensures c.take-goes.ensures)

pub list-returns-in_err-goes-clause-again : goal.list-returns-in_err-goes-clause-again
list-returns-in_err-goes-clause-again t c = λ j rest w ends.
    let so = subst (λ z. ListAgain c.args.cursor.now z c.loop-goes.items c.loop-goes.cursor) c.loop-goes-test.true c.loop-goes.invariant in
    err_finds _ _ c.from_residual.ensures.1 (λ y is. is ∙ list_fault _ _ _ _ _ c.requires.1 so c.in_err-goes.ensures.again j rest w)

pub list-returns-clause-again : goal.list-returns-clause-again
list-returns-clause-again t c =
    let so = subst (λ z. ListAgain c.args.cursor.now z c.loop-goes.items c.loop-goes.cursor) c.loop-goes-test.false c.loop-goes.invariant in
    list_done _ _ _ c.loop-goes.items c.requires.1 so

pub next_item-returns-in_err-value-clause-again : goal.next_item-returns-in_err-value-clause-again
next_item-returns-in_err-value-clause-again t c = λ all rest left. err_finds _ _ c.from_residual.ensures.1 (λ y is. is ∙ item_fault _ _ _ c.in_err-value.ensures.again all rest left)

pub next_item-returns-clause-again : goal.next_item-returns-clause-again
next_item-returns-clause-again t c = item_again _ _ c.in_ok-value.field-0 _ _ _ _ c.in_ok-push.ensures.ok c.in_ok-value.ensures.again c.comma_or.ensures.steps

pub object-loop-goes-init : goal.object-loop-goes-init
object-loop-goes-init t c = rw c.new-members.ensures (object_begun _ _ _ _ _ c.requires.1 c.advance.ensures c.take-goes.ensures)

pub object-returns-in_err-goes-clause-again : goal.object-returns-in_err-goes-clause-again
object-returns-in_err-goes-clause-again t c = λ j rest w ends.
    let so = subst (λ z. ObjectAgain c.args.cursor.now z c.loop-goes.members c.loop-goes.cursor) c.loop-goes-test.true c.loop-goes.invariant in
    err_finds _ _ c.from_residual.ensures.1 (λ y is. is ∙ object_fault _ _ _ _ _ c.requires.1 so c.in_err-goes.ensures.again j rest w)

pub object-returns-clause-again : goal.object-returns-clause-again
object-returns-clause-again t c =
    let so = subst (λ z. ObjectAgain c.args.cursor.now z c.loop-goes.members c.loop-goes.cursor) c.loop-goes-test.false c.loop-goes.invariant in
    object_done _ _ _ c.loop-goes.members c.requires.1 so

pub next_member-returns-in_err-member-clause-again : goal.next_member-returns-in_err-member-clause-again
next_member-returns-in_err-member-clause-again t c = λ all rest left. err_finds _ _ c.from_residual.ensures.1 (λ y is. is ∙ members_fault _ _ _ c.in_err-member.ensures.again all rest left)

pub next_member-returns-clause-again : goal.next_member-returns-clause-again
next_member-returns-clause-again t c = members_again _ _ c.in_ok-member.field-0 _ _ _ _ c.in_ok-push.ensures.ok c.in_ok-member.ensures.again c.comma_or.ensures.steps

pub member-returns-in_err-name-clause-again : goal.member-returns-in_err-name-clause-again
member-returns-in_err-name-clause-again t c = λ m rest w ends. err_finds _ _ c.from_residual.ensures.1 (λ y is. is ∙ c.in_err-name.ensures.all m.0 _ (name_at m _ rest w))

pub member-returns-in_err-word-clause-again : goal.member-returns-in_err-word-clause-again
member-returns-in_err-word-clause-again t c = λ m rest w ends.
    err_finds _ _ c.from_residual-in_err-word.ensures.1 (λ y is. is ∙ c.in_err-word.ensures.all _ (c.in_ok-name.ensures.all m.0 _ (name_at m _ rest w)).1)

pub member-returns-in_err-value-clause-again : goal.member-returns-in_err-value-clause-again
member-returns-in_err-value-clause-again t c = λ m rest w ends.
    let v = value_at m c.in_ok-name.name _ _ _ rest c.in_ok-name.ensures.all c.in_ok-word.ensures.found w in
    err_finds _ _ c.from_residual-in_err-value.ensures.1 (λ y is. is ∙ c.in_err-value.ensures.again m.1 rest v.1 ends)

pub member-returns-clause-again : goal.member-returns-clause-again
member-returns-clause-again t c =
    member_done c.in_ok-name.name _ _ _ _ c.in_ok-value.value _ (search (rules, the_lemmas)) c.in_ok-name.ensures.all c.in_ok-word.ensures.found c.in_ok-value.ensures.again
