use Rattle.lrs_hall.proofs.Once.{in_order}
use Rattle.lrs_hall.proofs.laws.law_of_order.Goals as goal

pub returns : goal.returns
returns c = in_order
