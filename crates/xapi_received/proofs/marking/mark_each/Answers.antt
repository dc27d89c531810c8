-- One member more is kept or left out.
use Rattle.std.proofs.Common.{◌≡◌, [], drop, nat_lt, false, sym, subst}
use Rattle.std.proofs.lemmas.List.{drop_all}
use Rattle.xapi_received.specs.Marking.{SoFar}
use Rattle.xapi_received.specs.declared.marks.Ending.{Ending}
use Rattle.xapi_received.proofs.Keeping.{so_far_first, so_far_last, so_far_step}
use Rattle.xapi_received.proofs.Memberwise.{seen}
use Rattle.xapi_received.proofs.marking.mark_each.Goals as goal

pub loop-i-init : goal.loop-i-init
loop-i-init c =
    let all = seen c.args.members.now in
    subst (λ (e : Ending). SoFar all c.args.draft.now false all c.args.draft.now e) (sym c.nothing-ending.ensures) (so_far_first all c.args.draft.now)

pub loop-i-preserved : goal.loop-i-preserved
loop-i-preserved c =
    so_far_step c.args.members.now c.args.draft.now c.loop-i.draft c.mark_next.new.draft c.loop-i.ending _ c.loop-i.i c.index-members-i.result c.loop-i-test.true c.index-members-i.is c.loop-i.invariant
    c.in_ok-ending.ensures

pub returns : goal.returns
returns c =
    let left = drop c.loop-i.i c.args.members.now in
    let none : left ≡ [] = drop_all c.loop-i.i c.args.members.now c.loop-i-test.false in
    so_far_last (seen c.args.members.now) left c.args.draft.now c.loop-i.draft (nat_lt 0 c.loop-i.i) c.loop-i.ending none c.loop-i.invariant
