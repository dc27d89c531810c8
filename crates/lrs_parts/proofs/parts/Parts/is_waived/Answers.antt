use Rattle.std.proofs.Common.{◌≡◌, ◌∙◌, Some, ap, subst, sym}
use Rattle.cmi5_running_sessions.specs.Cmi5SessionMarked.{marked}
use Rattle.cmi5_running_verdicts.specs.Cmi5VerdictNodes.{activity_of_node, seen}
use Rattle.lrs_parts.specs.Parts.{SeenParts}
use Rattle.lrs_parts.specs.Progress.{enrolment_in}
use Rattle.lrs_parts.proofs.Enrolling.{held_stands}
use Rattle.cmi5_running_sessions.specs.Cmi5LaunchNames.{waived}
use Rattle.cmi5_running_verdicts.specs.Cmi5VerdictUnits.{stands}
use Rattle.lrs_parts.proofs.parts.Parts.is_waived.Goals as goal

pub returns-in-Some : goal.returns-in-Some
returns-in-Some c =
    let old = c.self.inside in
    let e = seen c.args.enrolment.now in
    let r = c.args.registration.now in
    let enrolled : enrolment_in old.founding old.learning.editions.held r ≡ Some e = subst (λ (v : SeenParts). enrolment_in v.founding v.learning.editions.held r ≡ Some e) (sym c.self.view_is) c.requires.enrolled in
    let counted = held_stands old.progress.running old.founding old.learning.editions.held old.learning.registrations.held (marked old.statements.held) r c.in-Some.number e
    (sym c.number_held.ensures ∙ c.in-Some.is) enrolled c.self.invariant.follows.counted in
    c.is_waived.ensures e old.statements.held counted c.requires.index
    ∙ ap (λ (v : SeenParts). stands v.statements.held e.registration (activity_of_node e c.args.index) waived) c.self.view_is
