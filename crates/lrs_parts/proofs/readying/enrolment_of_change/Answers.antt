use Rattle.lrs_parts.proofs.Readied.{always}
use Rattle.lrs_parts.proofs.readying.enrolment_of_change.Goals as goal

pub returns-in-None-clause-registrations : goal.returns-in-None-clause-registrations
returns-in-None-clause-registrations c = always c.enrolment_of_new.result c.in-None.is
