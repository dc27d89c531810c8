use Rattle.std.proofs.Common.{◌∙◌, Option, ap, option_copied, sym}
use Rattle.std.specs.Prelude.{option_and_then}
use Rattle.lrs_parts.specs.Progress.{enrolment_in}
use Rattle.lrs_state.specs.declared.registrations.HeldRegistration.{HeldRegistration}
use Rattle.lrs_parts.proofs.following.enrolment_at.Goals as goal

pub returns-in-Some-clause-value : goal.returns-in-Some-clause-value
returns-in-Some-clause-value c =
    c.enrolment_in.ensures.value
    ∙ ap (λ (o : Option HeldRegistration). option_and_then (enrolment_in c.args.founding.now c.args.learning.now.editions.held) o) (ap option_copied (sym c.in-Some.is) ∙ c.get.ensures)

pub returns-in-None-clause-value : goal.returns-in-None-clause-value
returns-in-None-clause-value c =
    ap (λ (o : Option HeldRegistration). option_and_then (enrolment_in c.args.founding.now c.args.learning.now.editions.held) o) (ap option_copied (sym c.in-None.is) ∙ c.get.ensures)
