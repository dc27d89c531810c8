use Rattle.std.proofs.Common.{◌++◌, ◌∷◌, ◌∙◌, Option, ap, sym, false, true}
use Rattle.std.specs.Prelude.{option_map}
use Rattle.cmi5_running_verdicts.proofs.Elsewhere.{elsewhere_voided}
use Rattle.cmi5_running_sessions.specs.Cmi5SessionMarked.{mark}
use Rattle.cmi5_running_verdicts.specs.Cmi5VerdictNodes.{seen}
use Rattle.cmi5_running_verdicts.specs.Cmi5VerdictEnrolmentEnrolment.{Enrolment}
use Rattle.lrs_parts.proofs.Enrolling.{always_enrolled, counted_on}
use Rattle.lrs_parts.proofs.following.discount_in.Goals as goal

pub returns-in-Some : goal.returns-in-Some
returns-in-Some c = λ before behind counted.
    let s = c.args.statement.now in
    let e = seen c.in-Some.enrolment in
    counted_on c.args.running.now c.void.new.self c.args.founding.now c.args.learning.now.editions.held c.args.learning.now.registrations.held (before ++ mark s false ∷ behind)
    (before ++ mark s true ∷ behind) s (λ x tallies apart are. elsewhere_voided x before behind s tallies apart are) c.args.number e c.requires
    (sym c.enrolment_at.ensures.value ∙ ap (λ (o : Option Enrolment). option_map seen o) c.in-Some.is) (λ stands. c.void.ensures.stands before behind stands) c.void.ensures.others c.void.ensures.long counted

pub returns-in_default : goal.returns-in_default
returns-in_default c = λ before behind counted.
    let s = c.args.statement.now in
    absurd (always_enrolled c.args.running.now c.args.founding.now c.args.learning.now.editions.held c.args.learning.now.registrations.held (before ++ mark s false ∷ behind) s c.args.number c.requires
    (sym c.enrolment_at.ensures.value ∙ ap (λ (o : Option Enrolment). option_map seen o) c.in_default.is) counted)
