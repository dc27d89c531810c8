use Rattle.std.proofs.Common.{◌≡◌, ◌∙◌, IfOk, List, Some, subst, sym}
use Rattle.cmi5_running_verdicts.specs.Running.{TalliesStandFor}
use Rattle.cmi5_running_sessions.specs.Cmi5SessionMarked.{marked}
use Rattle.cmi5_running_verdicts.specs.Cmi5VerdictNodes.{SeenEnrolment, seen, verdicts}
use Rattle.lrs_parts.specs.Parts.{SeenParts}
use Rattle.lrs_parts.specs.Progress.{enrolment_in}
use Rattle.lrs_parts.proofs.Enrolling.{held_stands}
use Rattle.std.proofs.lemmas.Result.{IfOk-weaker}
use Rattle.xapi_statement.specs.Stored.{StoredStatement}
use Rattle.lrs_parts.proofs.parts.Parts.verdicts.Goals as goal

pub returns-in-Some : goal.returns-in-Some
returns-in-Some c =
    let old = c.self.inside in
    let e = seen c.args.enrolment.now in
    let r = c.args.registration.now in
    let enrolled : enrolment_in old.founding old.learning.editions.held r ≡ Some e = subst (λ (v : SeenParts). enrolment_in v.founding v.learning.editions.held r ≡ Some e) (sym c.self.view_is) c.requires.enrolled in
    let stands = held_stands old.progress.running old.founding old.learning.editions.held old.learning.registrations.held (marked old.statements.held) r c.in-Some.number e
    (sym c.number_held.ensures ∙ c.in-Some.is) enrolled c.self.invariant.follows.counted in
    subst (λ (v : SeenParts). IfOk c.verdicts.result (λ told. told.items ≡ verdicts e v.statements.held)) c.self.view_is
    (IfOk-weaker c.verdicts.result
    (λ told. (x : SeenEnrolment) → (those : List StoredStatement) → TalliesStandFor old.progress.running (marked those) c.in-Some.number x → told.items ≡ verdicts x those)
    (λ told. told.items ≡ verdicts e old.statements.held) (λ told says. says e old.statements.held stands) c.verdicts.ensures)
