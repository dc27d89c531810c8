use Rattle.std.proofs.Common.{◌≡◌, ◌∙◌, Option, Some, subst, sym}
use Rattle.std.specs.Prelude.{option_map}
use Rattle.std.proofs.lemmas.Option.{none-some, same_Some}
use Rattle.std.proofs.lemmas.Result.{IfOk-weaker}
use Rattle.cmi5_running_verdicts.specs.Cmi5VerdictNodes.{seen}
use Rattle.cmi5_running_verdicts.specs.Cmi5VerdictEnrolmentEnrolment.{Enrolment}
use Rattle.lrs_parts.specs.Progress.{IsEnrolmentOf}
use Rattle.lrs_state.specs.declared.registrations.HeldRegistration.{HeldRegistration}
use Rattle.lrs_parts.proofs.readying.enrolment_of_new.Goals as goal

pub returns-in-Some-clause-enrolment : goal.returns-in-Some-clause-enrolment
returns-in-Some-clause-enrolment c =
    IfOk-weaker c.enrolment_of.result (λ (e : Option Enrolment). IsEnrolmentOf c.args.founding.now c.args.editions.now.held c.in-Some.registration (option_map seen e))
    (λ (e : Option Enrolment). (r : HeldRegistration) → c.args.coming.now ≡ Some r → IsEnrolmentOf c.args.founding.now c.args.editions.now.held r (option_map seen e))
    (λ e its. λ r comes.
    subst (λ (x : HeldRegistration). IsEnrolmentOf c.args.founding.now c.args.editions.now.held x (option_map seen e)) (same_Some c.in-Some.registration r (sym c.in-Some.is ∙ comes)) its)
    c.enrolment_of.ensures.enrolment

pub returns-in-None-clause-enrolment : goal.returns-in-None-clause-enrolment
returns-in-None-clause-enrolment c = λ r comes. absurd (none-some r (sym c.in-None.is ∙ comes))
