use Rattle.std.proofs.Common.{arith, refl}
use Rattle.lrs_in_memory.specs.Calls.{length-steps}
use Rattle.lrs_in_memory.proofs.StepLists.{time_push, time_same}
use Rattle.lrs_in_memory.specs.Ledger.{steps_of}
use Rattle.lrs_in_memory.proofs.ledger.Ledger.enter.Goals as goal

pub returns-then-number-self-clause-time : goal.returns-then-number-self-clause-time
returns-then-number-self-clause-time c first =
    time_same (steps_of c.args.self.now) (steps_of c.args.self.now) first c.args.self.now.plan.number c.fail.new.self.number refl
    (omega (arith, length-steps c.args.self.now.history.calls.items c.args.self.now.history.log.items)) (omega arith) (omega arith)

pub returns-then-bytes-bytes_left-clause-time : goal.returns-then-bytes-bytes_left-clause-time
returns-then-bytes-bytes_left-clause-time c first =
    time_push (steps_of c.args.self.now) _ first c.args.self.now.plan.number c.fail-then-bytes-bytes_left.new.self.number _ c.note.ensures.steps
    (omega (arith, length-steps c.args.self.now.history.calls.items c.args.self.now.history.log.items)) (omega arith) (omega arith)

pub returns-then-due-clause-time : goal.returns-then-due-clause-time
returns-then-due-clause-time c first =
    time_push (steps_of c.args.self.now) _ first c.args.self.now.plan.number c.fail-then-due.new.self.number _ c.note-2.ensures.steps
    (omega (arith, length-steps c.args.self.now.history.calls.items c.args.self.now.history.log.items)) (omega arith) (omega arith)

pub returns-clause-time : goal.returns-clause-time
returns-clause-time c first =
    time_push (steps_of c.args.self.now) _ first c.args.self.now.plan.number c.is_due-due.new.self.number _ c.note-2.ensures.steps
    (omega (arith, length-steps c.args.self.now.history.calls.items c.args.self.now.history.log.items)) (omega arith) (omega arith)
