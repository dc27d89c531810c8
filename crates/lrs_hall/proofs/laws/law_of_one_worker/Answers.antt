use Rattle.lrs_hall.proofs.Once.{alone}
use Rattle.lrs_hall.proofs.laws.law_of_one_worker.Goals as goal

pub returns : goal.returns
returns c = alone
