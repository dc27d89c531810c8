use Rattle.cmi5_session.specs.Marked.{marked}
use Rattle.cmi5_verdict.specs.Nodes.{seen}
use Rattle.courses_tests.proofs.running.taking.enrol.Goals as goal

pub enrol-requires : goal.enrol-requires
enrol-requires c = (marked c.args.statements.now.held, seen c.args.enrolment.now, c.in_ok-ready.ensures.ready)
