-- The parts find the unit's registration with its edition.
use Rattle.std.proofs.Common.{◌≡◌, ◌<◌, IfOk, length, subst, sym}
use Rattle.lrs_history.specs.Cmi5LaunchNames.{waived}
use Rattle.lrs_history.specs.Cmi5VerdictNodes.{SeenEnrolment, activity_of_node, seen}
use Rattle.lrs_history.specs.Cmi5VerdictUnits.{stands}
use Rattle.lrs_made.proofs.Lent.{enrolment_lent}
use Rattle.lrs_made.specs.Lent.{enrolled_of}
use Rattle.lrs_parts.specs.Parts.{state_of}
use Rattle.lrs_made.proofs.waivers.is_waived.Goals as goal

pub is_waived-requires-clause-enrolled : goal.is_waived-requires-clause-enrolled
is_waived-requires-clause-enrolled c =
    let t = c.args.target.now in
    enrolment_lent (state_of c.args.parts.now) t.registration.now (enrolled_of t) (seen c.enrolment.result) c.requires.enrolled c.enrolment.ensures

pub is_waived-requires-clause-index : goal.is_waived-requires-clause-index
is_waived-requires-clause-index c =
    subst (λ (e : SeenEnrolment). c.args.target.now.index < length e.nodes) (sym c.enrolment.ensures) c.requires.index

pub returns : goal.returns
returns c =
    let index = c.args.target.now.index in
    subst (λ (e : SeenEnrolment). IfOk c.is_waived.result (λ told. told
    ≡ stands (state_of c.args.parts.now).statements e.registration (activity_of_node e index) waived)) c.enrolment.ensures c.is_waived.ensures
