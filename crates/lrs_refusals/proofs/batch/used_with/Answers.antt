use Rattle.std.proofs.Common.{arith}
use Rattle.lrs_refusals.proofs.batch.used_with.Goals as goal

pub returns-clause-fewer : goal.returns-clause-fewer
returns-clause-fewer c = omega arith

pub returns-clause-counted : goal.returns-clause-counted
returns-clause-counted c = c.count.ensures.counted
