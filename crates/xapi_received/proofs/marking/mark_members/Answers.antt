use Rattle.xapi_received.proofs.Marked.{whole_object}
use Rattle.xapi_received.proofs.Memberwise.{seen}
use Rattle.xapi_received.proofs.marking.mark_members.Goals as goal

pub returns : goal.returns
returns c =
    whole_object (seen c.args.members.now) c.args.draft.now c.put.new.self c.mark_each.new.draft c.leave.new.self c.in_ok-ending.ending c.in_ok-put.ensures c.in_ok-ending.ensures c.in_ok-leave.ensures.adds
    c.in_ok-leave.ensures.ends
