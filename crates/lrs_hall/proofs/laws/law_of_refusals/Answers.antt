use Rattle.lrs_hall.proofs.Refusals.{refusals_leave_nothing, trouble_leaves_at_most_doubt}
use Rattle.lrs_hall.proofs.laws.law_of_refusals.Goals as goal

pub returns-clause-refusals : goal.returns-clause-refusals
returns-clause-refusals c = refusals_leave_nothing

pub returns-clause-trouble : goal.returns-clause-trouble
returns-clause-trouble c = trouble_leaves_at_most_doubt
