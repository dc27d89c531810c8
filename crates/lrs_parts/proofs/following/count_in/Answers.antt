use Rattle.std.proofs.Common.{◌++◌, ◌∷◌, ◌∙◌, [], Option, ap, sym}
use Rattle.std.specs.Prelude.{option_map}
use Rattle.cmi5_running_verdicts.proofs.Elsewhere.{elsewhere_counted}
use Rattle.cmi5_running_sessions.specs.Cmi5SessionMarked.{mark}
use Rattle.cmi5_running_verdicts.specs.Cmi5VerdictNodes.{seen}
use Rattle.cmi5_running_verdicts.specs.Cmi5VerdictEnrolmentEnrolment.{Enrolment}
use Rattle.lrs_parts.proofs.Enrolling.{always_enrolled, counted_on}
use Rattle.lrs_parts.proofs.following.count_in.Goals as goal

pub returns-in-Some : goal.returns-in-Some
returns-in-Some c = λ those few counted.
    let m = mark c.args.statement.now c.args.voided in
    let e = seen c.in-Some.enrolment in
    counted_on c.args.running.now c.install.new.self c.args.founding.now c.args.learning.now.editions.held c.args.learning.now.registrations.held those (those ++ m ∷ []) c.args.statement.now
    (λ x tallies apart are. elsewhere_counted x those m tallies apart are) c.args.number e c.requires
    (sym c.enrolment_at.ensures.value ∙ ap (λ (o : Option Enrolment). option_map seen o) c.in-Some.is) (λ stands. c.install.ensures.stands those few stands) c.install.ensures.others c.install.ensures.long
    counted

pub returns-in_default : goal.returns-in_default
returns-in_default c = λ those few counted.
    absurd (always_enrolled c.args.running.now c.args.founding.now c.args.learning.now.editions.held c.args.learning.now.registrations.held those c.args.statement.now c.args.number c.requires
    (sym c.enrolment_at.ensures.value ∙ ap (λ (o : Option Enrolment). option_map seen o) c.in_default.is) counted)
