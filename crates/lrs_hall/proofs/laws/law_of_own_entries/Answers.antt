use Rattle.lrs_hall.proofs.Once.{own_entries}
use Rattle.lrs_hall.proofs.laws.law_of_own_entries.Goals as goal

pub returns : goal.returns
returns c = own_entries
