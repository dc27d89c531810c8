use Rattle.std.proofs.Common.{◌∙◌, Option, ap, sym}
use Rattle.lrs_parts.specs.Progress.{enrolment_in}
use Rattle.lrs_state.specs.declared.founding.Founding.{Founding}
use Rattle.lrs_parts.proofs.following.enrolment_in.Goals as goal

pub returns-in-Some-clause-value : goal.returns-in-Some-clause-value
returns-in-Some-clause-value c =
    c.enrolment_of.ensures.value ∙ ap (λ (o : Option Founding). enrolment_in o c.args.editions.now.held c.args.registration.now) (sym c.in-Some.is)

pub returns-in-None-clause-value : goal.returns-in-None-clause-value
returns-in-None-clause-value c = ap (λ (o : Option Founding). enrolment_in o c.args.editions.now.held c.args.registration.now) (sym c.in-None.is)
