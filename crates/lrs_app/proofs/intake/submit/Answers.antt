use Rattle.std.proofs.Common.{ap}
use Rattle.lrs_console.specs.Asking.{put_answer}
use Rattle.lrs_hall.specs.LrsMachineActs.{Receipt}
use Rattle.lrs_hall.specs.LrsMachineDesk.{history}
use Rattle.lrs_app.proofs.Opened.{acts_begin, answered_cause, answered_doubts, answered_ends, trouble_cause, troubled_doubts, troubled_ends}
use Rattle.lrs_app.proofs.intake.submit.Goals as goal

pub returns-in-Ok-clause-ends : goal.returns-in-Ok-clause-ends
returns-in-Ok-clause-ends g c =
    answered_ends c.args.id.now (put_answer c.args.desk.now.limit (history c.args.desk.now) c.args.clock c.args.draw.now c.args.id.now c.args.statement)
    c.put.result.1 c.args.desk.now.line c.put.new.self.line c.in-Ok.answered c.ending_saying.result
    (rw c.in-Ok.is at c.put.ensures.acts) c.requires.settled (rw c.in-Ok.is at c.ending_saying.ensures.said)

pub returns-in-Ok-clause-doubts : goal.returns-in-Ok-clause-doubts
returns-in-Ok-clause-doubts g c =
    answered_doubts (put_answer c.args.desk.now.limit (history c.args.desk.now) c.args.clock c.args.draw.now c.args.id.now c.args.statement)
    c.put.result.1 c.args.desk.now c.put.new.self c.in-Ok.answered c.ending_saying.result (rw c.in-Ok.is at c.put.ensures.acts)

pub returns-in-Ok-clause-goes_on : goal.returns-in-Ok-clause-goes_on
returns-in-Ok-clause-goes_on g c = record {
  limit = c.put.ensures.same.0;
  begins = acts_begin (put_answer c.args.desk.now.limit (history c.args.desk.now) c.args.clock c.args.draw.now c.args.id.now c.args.statement)
      c.put.result.1 c.args.desk.now.line c.put.new.self.line c.put.ensures.acts.line;
  tells = c.put.ensures.tells;
  later = c.put.ensures.later;
  stops = c.put.ensures.stops;
}

pub returns-in-Ok-clause-cause : goal.returns-in-Ok-clause-cause
returns-in-Ok-clause-cause g c =
    answered_cause c.put.result.1 c.in-Ok.answered (g.D.Disk.fault_count c.args.desk.now.disk) (g.D.Disk.fault_count c.put.new.self.disk) c.ending_saying.result
    (ap (λ (r : Receipt). r.was) c.put.ensures.receipt) (ap (λ (r : Receipt). r.is) c.put.ensures.receipt) (rw c.in-Ok.is at c.put.ensures.acts.cause)
    c.ending_saying.ensures.cause

pub returns-in-Err-clause-ends : goal.returns-in-Err-clause-ends
returns-in-Err-clause-ends g c =
    rw c.troubled.ensures (troubled_ends c.args.id.now (put_answer c.args.desk.now.limit (history c.args.desk.now) c.args.clock c.args.draw.now c.args.id.now c.args.statement)
    c.put.result.1 c.args.desk.now.line c.put.new.self.line c.in-Err.trouble (rw c.in-Err.is at c.put.ensures.acts) c.requires.settled)

pub returns-in-Err-clause-doubts : goal.returns-in-Err-clause-doubts
returns-in-Err-clause-doubts g c =
    rw c.troubled.ensures (troubled_doubts (put_answer c.args.desk.now.limit (history c.args.desk.now) c.args.clock c.args.draw.now c.args.id.now c.args.statement)
    c.put.result.1 c.args.desk.now c.put.new.self c.in-Err.trouble (rw c.in-Err.is at c.put.ensures.acts) c.requires.settled)

pub returns-in-Err-clause-goes_on : goal.returns-in-Err-clause-goes_on
returns-in-Err-clause-goes_on g c = record {
  limit = c.put.ensures.same.0;
  begins = acts_begin (put_answer c.args.desk.now.limit (history c.args.desk.now) c.args.clock c.args.draw.now c.args.id.now c.args.statement)
      c.put.result.1 c.args.desk.now.line c.put.new.self.line c.put.ensures.acts.line;
  tells = c.put.ensures.tells;
  later = c.put.ensures.later;
  stops = c.put.ensures.stops;
}

pub returns-in-Err-clause-cause : goal.returns-in-Err-clause-cause
returns-in-Err-clause-cause g c =
    rw c.troubled.ensures (trouble_cause c.put.result.1 c.in-Err.trouble (g.D.Disk.fault_count c.args.desk.now.disk) (g.D.Disk.fault_count c.put.new.self.disk)
    (ap (λ (r : Receipt). r.was) c.put.ensures.receipt) (ap (λ (r : Receipt). r.is) c.put.ensures.receipt) (rw c.in-Err.is at c.put.ensures.acts.cause))
