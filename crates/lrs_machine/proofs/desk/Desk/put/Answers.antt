use Rattle.std.proofs.Common.{ap, subst, ◌∙◌}
use Rattle.lrs_fold.specs.LrsHistoryHistory.{answer}
use Rattle.lrs_record.specs.declared.entry.Caller.TheVariants.{Operator}
use Rattle.lrs_machine.specs.Acts.{Acts}
use Rattle.lrs_machine.specs.Desk.{history, receipt_of}
use Rattle.lrs_machine.proofs.DeskLemmas.{put_told, landed_is, receipt_made}
use Rattle.lrs_machine.proofs.desk.Desk.put.Goals as goal

pub returns-clause-receipt : goal.returns-clause-receipt
returns-clause-receipt g c =
    let a = c.answer-said in
    receipt_made g.D.Disk.time g.D.Disk.fault_count c.args.self.now a.new.self c.receipt-receipt.result c.status_in.result c.length-point.result c.args.clock c.faults-was.result a.result.1
    c.receipt-receipt.ensures c.length-point.ensures c.faults-was.ensures
    (landed_is (answer c.args.self.now.limit (history c.args.self.now) Operator c.put_of.result c.args.clock c.args.draw.now) a.result.0 a.result.1 (g.D.Disk.time a.new.self.disk) c.args.self.now a.new.self a.ensures.happens)
    ∙ ap (λ n. receipt_of g.D.Disk.time g.D.Disk.fault_count c.args.self.now a.new.self n c.args.clock) c.status_in.ensures

pub returns-clause-acts : goal.returns-clause-acts
returns-clause-acts g c =
    let a = c.answer-said in
    subst (λ k. Acts (answer c.args.self.now.limit (history c.args.self.now) Operator k c.args.clock c.args.draw.now) a.result.0 c.receipt-receipt.result c.args.self.now.line a.new.self.line) c.put_of.ensures
    (put_told g.D.Disk.time g.D.Disk.fault_count c.args.self.now a.new.self Operator c.put_of.result c.args.clock c.args.draw.now a.result.0 a.result.1 c.receipt-receipt.result
    (receipt_made g.D.Disk.time g.D.Disk.fault_count c.args.self.now a.new.self c.receipt-receipt.result c.status_in.result c.length-point.result c.args.clock c.faults-was.result a.result.1
    c.receipt-receipt.ensures c.length-point.ensures c.faults-was.ensures
    (landed_is (answer c.args.self.now.limit (history c.args.self.now) Operator c.put_of.result c.args.clock c.args.draw.now) a.result.0 a.result.1 (g.D.Disk.time a.new.self.disk) c.args.self.now a.new.self a.ensures.happens)
    ∙ ap (λ n. receipt_of g.D.Disk.time g.D.Disk.fault_count c.args.self.now a.new.self n c.args.clock) c.status_in.ensures)
    a.ensures.happens a.ensures.cause)
