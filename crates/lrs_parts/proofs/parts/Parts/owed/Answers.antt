use Rattle.std.proofs.Common.{◌≡◌, ◌∙◌, Some, subst, sym}
use Rattle.cmi5_running_sessions.specs.Cmi5SessionMarked.{marked}
use Rattle.cmi5_running_verdicts.specs.Cmi5VerdictNodes.{seen}
use Rattle.lrs_parts.specs.Parts.{SeenParts}
use Rattle.lrs_parts.specs.Progress.{enrolment_in}
use Rattle.lrs_parts.proofs.Enrolling.{held_stands}
use Rattle.cmi5_running_verdicts.specs.Running.{TalliesStandFor}
use Rattle.lrs_parts.proofs.parts.Parts.owed.Goals as goal

pub owed_by_tallies-requires : goal.owed_by_tallies-requires
owed_by_tallies-requires c =
    let old = c.self.inside in
    let e = seen c.args.enrolment.now in
    let r = c.args.registration.now in
    let enrolled : enrolment_in old.founding old.learning.editions.held r ≡ Some e = subst (λ (v : SeenParts). enrolment_in v.founding v.learning.editions.held r ≡ Some e) (sym c.self.view_is) c.requires.enrolled in
    let stands = held_stands old.progress.running old.founding old.learning.editions.held old.learning.registrations.held (marked old.statements.held) r c.in-Some.number e
    (sym c.number_held.ensures ∙ c.in-Some.is) enrolled c.self.invariant.follows.counted in
    subst (λ (v : SeenParts). TalliesStandFor v.progress.running (marked v.statements.held) c.in-Some.number e) c.self.view_is stands
