use Rattle.cmi5_running_sessions.proofs.Making.{all_taken, more_taken, none_taken}
use Rattle.cmi5_running_sessions.proofs.sessions.Sessions.release.Goals as goal

pub loop-statement-init : goal.loop-statement-init
loop-statement-init c = none_taken c.args.self.now

pub loop-statement-preserved : goal.loop-statement-preserved
loop-statement-preserved c =
    let at = c.loop-statement in
    more_taken c.args.statements.now at.statement-index c.statement-item.result c.args.self.now at.self c.release_one.new.self c.loop-statement-test.true c.statement-item.is at.invariant c.release_one.ensures

pub returns : goal.returns
returns c =
    let at = c.loop-statement in
    all_taken c.args.statements.now at.statement-index c.args.self.now at.self c.loop-statement-test.false at.invariant
