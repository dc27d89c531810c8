use Rattle.lrs_laws.proofs.Refusals.{refused_makes_no_entry, statuses_tell_refusals}
use Rattle.lrs_laws.proofs.laws.law_of_answers.Goals as goal

pub returns-clause-none : goal.returns-clause-none
returns-clause-none c = refused_makes_no_entry

pub returns-clause-status : goal.returns-clause-status
returns-clause-status c = statuses_tell_refusals
