use Rattle.std.proofs.Common.{◌∙◌}
use Rattle.lrs_decimal.proofs.Comparing.{spelled_order}
use Rattle.lrs_decimal.proofs.decimal.Decimal.cmp.Goals as goal

pub returns-clause-spelled : goal.returns-clause-spelled
returns-clause-spelled c = λ s t m n. c.cmp_units.ensures ∙ spelled_order c.args.self.now c.args.other.now s t m n
