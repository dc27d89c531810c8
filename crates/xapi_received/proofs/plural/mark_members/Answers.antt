-- One member more is marked.
use Rattle.std.proofs.Common.{◌≡◌, [], drop, nat_lt}
use Rattle.std.proofs.lemmas.List.{drop_all}
use Rattle.std.proofs.lemmas.Result.{on_ok_weaker}
use Rattle.xapi_received.proofs.Memberwise.{rest_first, rest_last, rest_step, seen}
use Rattle.xapi_received.proofs.plural.mark_members.Goals as goal

pub loop-i-init : goal.loop-i-init
loop-i-init g c = rest_first g.P.Plural.change (seen c.args.members.now) c.args.draft.now c.put.new.self c.in_ok-put.ensures

pub loop-i-preserved : goal.loop-i-preserved
loop-i-preserved g c =
    rest_step g.P.Plural.change c.args.members.now c.args.draft.now c.loop-i.draft c.mark_member.new.draft c.loop-i.i c.index-members-i.result c.loop-i-test.true c.index-members-i.is c.loop-i.invariant
    c.in_ok-mark_member.ensures

pub returns : goal.returns
returns g c =
    let left = drop c.loop-i.i c.args.members.now in
    let none : left ≡ [] = drop_all c.loop-i.i c.args.members.now c.loop-i-test.false in
    on_ok_weaker c.put-2.result (λ closed. rest_last g.P.Plural.change c.args.members.now left c.args.draft.now c.loop-i.draft c.put-2.new.self (nat_lt 0 c.loop-i.i) none c.loop-i.invariant closed) c.put-2.ensures
