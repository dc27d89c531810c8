use Rattle.std.proofs.Common.{◌∙◌, Option, refl, sym, ap}
use Rattle.std.specs.Prelude.{option_map}
use Rattle.cmi5_running_verdicts.specs.Cmi5VerdictNodes.{seen}
use Rattle.cmi5_running_verdicts.specs.Cmi5VerdictEnrolmentEnrolment.{Enrolment}
use Rattle.lrs_parts.proofs.readying.enrolment_of.Goals as goal

pub returns-in-Some-clause-enrolment : goal.returns-in-Some-clause-enrolment
returns-in-Some-clause-enrolment c =
    (seen c.in-Some.enrolment, sym c.enrolment_in.ensures.value ∙ ap (λ (o : Option Enrolment). option_map seen o) c.in-Some.is, refl)
