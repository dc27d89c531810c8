-- The parts find the registration with its edition.
use Rattle.std.proofs.Common.{◌≡◌, ◌++◌, IfOk, subst}
use Rattle.lrs_history.specs.Cmi5VerdictNodes.{SeenEnrolment, owed, seen}
use Rattle.lrs_made.proofs.Lent.{enrolment_lent}
use Rattle.lrs_made.specs.Lent.{seen_enrolled}
use Rattle.lrs_parts.specs.Parts.{state_of}
use Rattle.lrs_made.proofs.owing.owed_indices.Goals as goal

pub owed-requires : goal.owed-requires
owed-requires c =
    let e = c.args.enrolled.now in
    record { enrolled = enrolment_lent (state_of c.args.parts.now) e.registration.now (seen_enrolled e) (seen c.enrolment.result) c.requires c.enrolment.ensures }

pub returns : goal.returns
returns c =
    subst (λ (e : SeenEnrolment). IfOk c.owed.result (λ indices. indices.items ≡ owed e ((state_of c.args.parts.now).statements ++ c.args.new.now))) c.enrolment.ensures c.owed.ensures
