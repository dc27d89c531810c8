use Rattle.lrs_parts.proofs.Readied.{always}
use Rattle.lrs_parts.proofs.readying.enrolment_of_effect.Goals as goal

pub returns-in-None-clause-editions : goal.returns-in-None-clause-editions
returns-in-None-clause-editions c = always c.enrolment_of_change.result c.in-None.is
