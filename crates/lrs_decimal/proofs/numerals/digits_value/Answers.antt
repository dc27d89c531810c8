use Rattle.std.proofs.Common.{arith}
use Rattle.lrs_decimal.proofs.NumeralLemmas.{number_step}
use Rattle.lrs_decimal.proofs.numerals.digits_value.Goals as goal

pub overflow_mul-value : goal.overflow_mul-value
overflow_mul-value c =
    let s = number_step c.args.digits.now c.loop-digit.digit-index c.loop-digit.value c.requires.digits c.requires.few c.loop-digit-test.true c.loop-digit.invariant.0 c.loop-digit.invariant.1 in
    omega arith

pub overflow_sub-value : goal.overflow_sub-value
overflow_sub-value c =
    (number_step c.args.digits.now c.loop-digit.digit-index c.loop-digit.value c.requires.digits c.requires.few c.loop-digit-test.true c.loop-digit.invariant.0 c.loop-digit.invariant.1).0

pub overflow_add-value : goal.overflow_add-value
overflow_add-value c =
    let s = number_step c.args.digits.now c.loop-digit.digit-index c.loop-digit.value c.requires.digits c.requires.few c.loop-digit-test.true c.loop-digit.invariant.0 c.loop-digit.invariant.1 in
    omega arith

pub loop-digit-preserved : goal.loop-digit-preserved
loop-digit-preserved c =
    let s = number_step c.args.digits.now c.loop-digit.digit-index c.loop-digit.value c.requires.digits c.requires.few c.loop-digit-test.true c.loop-digit.invariant.0 c.loop-digit.invariant.1 in
    (s.3, s.4)
