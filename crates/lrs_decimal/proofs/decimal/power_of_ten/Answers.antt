use Rattle.std.proofs.Common.{arith}
use Rattle.lrs_decimal.proofs.Digits.{power_small}
use Rattle.lrs_decimal.proofs.decimal.power_of_ten.Goals as goal

pub overflow_mul-result : goal.overflow_mul-result
overflow_mul-result c = let l = power_small c.loop.counter c.args.power c.loop-test.true c.requires in omega (arith, l, c.loop.invariant)
