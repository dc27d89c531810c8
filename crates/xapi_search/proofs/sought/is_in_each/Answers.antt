use Rattle.std.proofs.Common.{sym, ◌∙◌}
use Rattle.xapi_search.proofs.Narrowed.{ascends_at, in_each, in_each_more, not_in_each}
use Rattle.xapi_search.proofs.sought.is_in_each.Goals as goal

pub contains-requires : goal.contains-requires
contains-requires c = ascends_at c.args.lists.now c.loop-list.list-index c.loop-list-test.true c.requires

pub returns-then-not-contains : goal.returns-then-not-contains
returns-then-not-contains c =
    sym (not_in_each c.args.lists.now c.loop-list.list-index c.args.position c.loop-list-test.true (sym c.contains.ensures ∙ c.if-not-contains.true))

pub loop-list-preserved : goal.loop-list-preserved
loop-list-preserved c =
    in_each_more c.args.lists.now c.loop-list.list-index c.args.position c.loop-list-test.true c.loop-list.invariant (sym c.contains.ensures ∙ c.if-not-contains.false)

pub returns : goal.returns
returns c = sym (in_each c.args.lists.now c.loop-list.list-index c.args.position c.loop-list-test.false c.loop-list.invariant)
