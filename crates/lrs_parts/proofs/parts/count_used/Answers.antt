use Rattle.std.proofs.Common.{arith}
use Rattle.lrs_parts.proofs.parts.count_used.Goals as goal

pub returns-clause-few : goal.returns-clause-few
returns-clause-few c = omega arith
