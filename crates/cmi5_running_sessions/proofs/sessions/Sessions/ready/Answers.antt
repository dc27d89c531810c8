use Rattle.cmi5_running_sessions.proofs.Making.{all_there, more_made, more_there, none_made}
use Rattle.cmi5_running_sessions.proofs.sessions.Sessions.ready.Goals as goal

pub loop-statement-init : goal.loop-statement-init
loop-statement-init c = record { made = none_made c.args.statements.now c.args.self.now; there = tt }

pub returns-in_err-ready_one-clause-made : goal.returns-in_err-ready_one-clause-made
returns-in_err-ready_one-clause-made c =
    let at = c.loop-statement in
    more_made c.args.statements.now at.statement-index c.statement-item.result c.args.self.now at.self c.ready_one.new.self c.loop-statement-test.true c.statement-item.is at.invariant.made c.ready_one.ensures.made

pub loop-statement-preserved : goal.loop-statement-preserved
loop-statement-preserved c =
    let at = c.loop-statement in
    let x = c.statement-item.result in
    record {
      made = more_made c.args.statements.now at.statement-index x c.args.self.now at.self c.ready_one.new.self c.loop-statement-test.true c.statement-item.is at.invariant.made c.ready_one.ensures.made;
      there = more_there at.self c.ready_one.new.self c.args.statements.now at.statement-index x c.loop-statement-test.true c.statement-item.is c.ready_one.ensures.kept at.invariant.there
          c.in_ok-ready_one.ensures.there;
    }

pub returns-clause-made : goal.returns-clause-made
returns-clause-made c = c.loop-statement.invariant.made

pub returns-clause-ready : goal.returns-clause-ready
returns-clause-ready c =
    let at = c.loop-statement in
    all_there at.self c.args.statements.now at.statement-index c.loop-statement-test.false at.invariant.there
