use Rattle.std.proofs.Common.{refl}
use Rattle.lrs_journal.proofs.create.ready.Goals as goal

pub returns-then-need-limit-clause-refused : goal.returns-then-need-limit-clause-refused
returns-then-need-limit-clause-refused g c = c.in_ok-size.ensures.free refl
