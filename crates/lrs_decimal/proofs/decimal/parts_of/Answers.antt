use Rattle.std.proofs.Math.Nat.{mod-lt}
use Rattle.lrs_decimal.proofs.Comparing.{ten_pos, number_below}
use Rattle.lrs_decimal.proofs.decimal.parts_of.Goals as goal

pub returns-then-power-gt-MOST_SIGNIFICANT_DIGITS-clause-rest : goal.returns-then-power-gt-MOST_SIGNIFICANT_DIGITS-clause-rest
returns-then-power-gt-MOST_SIGNIFICANT_DIGITS-clause-rest c = number_below c.args.number c.args.power c.requires c.if-power-gt-MOST_SIGNIFICANT_DIGITS.true

pub nonzero_div-result : goal.nonzero_div-result
nonzero_div-result c = rw c.power_of_ten-divisor.ensures (ten_pos c.args.power)

pub nonzero_rem-result : goal.nonzero_rem-result
nonzero_rem-result c = rw c.power_of_ten-divisor.ensures (ten_pos c.args.power)

pub returns-clause-rest : goal.returns-clause-rest
returns-clause-rest c = rw c.power_of_ten-divisor.ensures (mod-lt c.args.number (ten_pos c.args.power))
