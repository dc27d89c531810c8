use Rattle.lrs_hall.specs.LrsMachineDesk.{history}
use Rattle.lrs_app.proofs.Opened.{takes_in, takes_none}
use Rattle.lrs_app.proofs.Openings.{opened_settled, still_doubts, still_goes}
use Rattle.lrs_app.proofs.intake.take_in.Goals as goal

pub submit-requires-clause-settled : goal.submit-requires-clause-settled
submit-requires-clause-settled g c = opened_settled g.D.Disk c.args.desk.now c.requires.opened

pub returns-in-Ok-clause-ends : goal.returns-in-Ok-clause-ends
returns-in-Ok-clause-ends g c =
    takes_in c.args.desk.now.limit (history c.args.desk.now) c.args.clock c.args.draw.now _ _ (history c.submit.new.desk) c.submit.result
    (g.I.Source.left c.args.input.now) c.in-Ok.ensures.taken c.submit.ensures.ends

pub returns-in-Err-clause-ends : goal.returns-in-Err-clause-ends
returns-in-Err-clause-ends g c =
    takes_none c.args.desk.now.limit (history c.args.desk.now) c.args.clock c.args.draw.now c.in-Err.ending (g.I.Source.left c.args.input.now)
    (g.I.Source.fault_count c.args.input.now) (g.I.Source.fault_count c.take_statement.new.input) c.in-Err.ensures.refused c.in-Err.ensures.cause

pub returns-in-Err-clause-doubts : goal.returns-in-Err-clause-doubts
returns-in-Err-clause-doubts g c = still_doubts g.D.Disk c.args.desk.now c.requires.opened c.in-Err.ending

pub returns-in-Err-clause-goes_on : goal.returns-in-Err-clause-goes_on
returns-in-Err-clause-goes_on g c = still_goes g.D.Disk g.met.D.Disk.counts_now g.met.D.Disk.only_now c.args.desk.now c.requires.opened
