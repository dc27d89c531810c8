-- The parts find the registration with its edition.
use Rattle.std.proofs.Common.{◌≡◌, IfOk, subst}
use Rattle.lrs_history.specs.Cmi5VerdictNodes.{SeenEnrolment, seen, verdicts}
use Rattle.lrs_made.proofs.Lent.{enrolment_lent}
use Rattle.lrs_made.specs.Lent.{seen_enrolled}
use Rattle.lrs_parts.specs.Parts.{state_of}
use Rattle.lrs_made.proofs.enrolments.verdicts_of.Goals as goal

pub verdicts-requires : goal.verdicts-requires
verdicts-requires c =
    let e = c.args.enrolled.now in
    record { enrolled = enrolment_lent (state_of c.args.parts.now) e.registration.now (seen_enrolled e) (seen c.enrolment.result) c.requires c.enrolment.ensures }

pub returns : goal.returns
returns c =
    subst (λ (e : SeenEnrolment). IfOk c.verdicts.result (λ marks. marks.items ≡ verdicts e (state_of c.args.parts.now).statements)) c.enrolment.ensures c.verdicts.ensures
