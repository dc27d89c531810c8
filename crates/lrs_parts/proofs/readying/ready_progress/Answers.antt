use Rattle.std.proofs.Common.{IfSome, List, Option, subst, sym}
use Rattle.cmi5_running_sessions.specs.Room.{MakesSlots}
use Rattle.cmi5_running_verdicts.specs.Holding.{StandBehindHolders}
use Rattle.cmi5_running_verdicts.specs.Cmi5VerdictEnrolmentEnrolment.{Enrolment}
use Rattle.cmi5_running_sessions.proofs.Making.{none_made}
use Rattle.lrs_parts.proofs.Readied.{lent, readied}
use Rattle.xapi_statement.specs.Stored.{StoredStatement}
use Rattle.lrs_parts.proofs.readying.ready_progress.Goals as goal

pub ready-requires : goal.ready-requires
ready-requires c =
    lent (λ (e : Enrolment). StandBehindHolders e.nodes.now) c.as_ref.result
    (subst (λ (o : Option Enrolment). IfSome o (λ (e : Enrolment). StandBehindHolders e.nodes.now)) (sym c.as_ref.ensures.value) c.in_ok-enrolment.ensures.behind)

pub returns-in_err-enrolment-clause-made : goal.returns-in_err-enrolment-clause-made
returns-in_err-enrolment-clause-made c = none_made c.args.effect.now.statements c.args.progress.now.sessions

pub returns-clause-made : goal.returns-clause-made
returns-clause-made c =
    subst (λ (ss : List StoredStatement). MakesSlots ss c.args.progress.now.sessions c.ready.new.self.sessions) c.as_slice.ensures c.ready.ensures.made

pub returns-clause-ready : goal.returns-clause-ready
returns-clause-ready c =
    readied c.ready.new.self c.args.founding.now c.args.editions.now.held c.args.statements.now.held c.args.effect.now c.in_ok-enrolment.enrolment c.as_ref.result c.as_slice.result.now
    c.ready.result c.as_ref.ensures.value c.as_slice.ensures c.in_ok-enrolment.ensures.editions c.in_ok-enrolment.ensures.registrations c.in_ok-enrolment.ensures.enrolment c.ready.ensures.sessions
    c.ready.ensures.running c.ready.ensures.targets
