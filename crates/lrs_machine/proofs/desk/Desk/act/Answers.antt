use Rattle.lrs_fold.specs.LrsHistoryHistory.{answer}
use Rattle.lrs_machine.specs.Desk.{history}
use Rattle.lrs_machine.proofs.DeskLemmas.{act_goes_on, act_told, cause_rises, landed_is, marks_stay, receipt_made}
use Rattle.lrs_machine.proofs.desk.Desk.act.Goals as goal

pub returns-clause-receipt : goal.returns-clause-receipt
returns-clause-receipt g c =
    let a = c.answer-said in
    receipt_made g.D.Disk.time g.D.Disk.fault_count c.args.self.now a.new.self c.receipt-receipt.result c.reply_to-reply.result.status c.length-point.result c.args.clock c.faults-was.result a.result.1
    c.receipt-receipt.ensures c.length-point.ensures c.faults-was.ensures
    (landed_is (answer c.args.self.now.limit (history c.args.self.now) c.args.caller c.args.command c.args.clock c.args.draw.now) a.result.0 a.result.1 (g.D.Disk.time a.new.self.disk) c.args.self.now a.new.self a.ensures.happens)

pub returns-clause-acts : goal.returns-clause-acts
returns-clause-acts g c =
    let a = c.answer-said in
    act_told g.D.Disk.time g.D.Disk.fault_count c.args.self.now a.new.self c.args.caller c.args.command c.args.clock c.args.draw.now a.result.0 a.result.1 c.reply_to-reply.result c.receipt-receipt.result
    (receipt_made g.D.Disk.time g.D.Disk.fault_count c.args.self.now a.new.self c.receipt-receipt.result c.reply_to-reply.result.status c.length-point.result c.args.clock c.faults-was.result a.result.1
    c.receipt-receipt.ensures c.length-point.ensures c.faults-was.ensures
    (landed_is (answer c.args.self.now.limit (history c.args.self.now) c.args.caller c.args.command c.args.clock c.args.draw.now) a.result.0 a.result.1 (g.D.Disk.time a.new.self.disk) c.args.self.now a.new.self a.ensures.happens))
    a.ensures.happens a.ensures.cause c.reply_to-reply.ensures

pub returns-clause-line : goal.returns-clause-line
returns-clause-line g c =
    let a = c.answer-said in
    act_goes_on g.D.Disk.time g.D.Disk.fault_count c.args.self.now a.new.self c.args.caller c.args.command c.args.clock c.args.draw.now a.result.0 a.result.1 c.reply_to-reply.result c.receipt-receipt.result
    (receipt_made g.D.Disk.time g.D.Disk.fault_count c.args.self.now a.new.self c.receipt-receipt.result c.reply_to-reply.result.status c.length-point.result c.args.clock c.faults-was.result a.result.1
    c.receipt-receipt.ensures c.length-point.ensures c.faults-was.ensures
    (landed_is (answer c.args.self.now.limit (history c.args.self.now) c.args.caller c.args.command c.args.clock c.args.draw.now) a.result.0 a.result.1 (g.D.Disk.time a.new.self.disk) c.args.self.now a.new.self a.ensures.happens))
    a.ensures.happens a.ensures.cause c.reply_to-reply.ensures

pub returns-clause-marks : goal.returns-clause-marks
returns-clause-marks g c = marks_stay g.row.D.coded c.args.self.now c.answer-said.new.self c.answer-said.ensures.same c.answer-said.ensures.origin

pub returns-clause-tide : goal.returns-clause-tide
returns-clause-tide g c =
    let a = c.answer-said in
    cause_rises (g.D.Disk.fault_count c.args.self.now.disk) (g.D.Disk.fault_count a.new.self.disk) a.result.0 a.ensures.cause
