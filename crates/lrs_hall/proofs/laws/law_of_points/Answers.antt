use Rattle.lrs_hall.proofs.Lines.{entries_take}
use Rattle.lrs_hall.proofs.laws.law_of_points.Goals as goal

pub returns : goal.returns
returns c = entries_take
