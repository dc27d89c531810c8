use Rattle.lrs_hall.proofs.Once.{entries_once}
use Rattle.lrs_hall.proofs.laws.law_of_entries.Goals as goal

pub returns : goal.returns
returns c = entries_once
