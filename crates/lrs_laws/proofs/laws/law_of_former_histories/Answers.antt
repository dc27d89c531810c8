use Rattle.lrs_laws.proofs.FormerLaws.{former_histories_are_legal, former_histories_are_movable}
use Rattle.lrs_laws.proofs.laws.law_of_former_histories.Goals as goal

pub returns-clause-legal : goal.returns-clause-legal
returns-clause-legal c = former_histories_are_legal

pub returns-clause-movable : goal.returns-clause-movable
returns-clause-movable c = former_histories_are_movable
