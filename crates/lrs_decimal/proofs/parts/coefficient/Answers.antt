use Rattle.std.proofs.Common.{◌-◌, ◌+◌, take, drop, get_or, sym, arith}
use Rattle.std.specs.List.{filter}
use Rattle.lrs_decimal.specs.Numbers.{is_digit}
use Rattle.lrs_decimal.proofs.Digits.{digit_step, digit_fits}
use Rattle.lrs_decimal.proofs.parts.coefficient.Goals as goal

pub overflow_mul-value : goal.overflow_mul-value
overflow_mul-value c =
    let e = digit_step c.args.mantissa.now c.loop-byte.byte-index c.loop-byte.value c.loop-byte.left _ c.loop-byte-test.true (sym c.if-not-is_ascii_digit.ensures.value) c.if-left-eq0.false c.loop-byte.invariant in
    let l = digit_fits c.loop-byte.value (get_or c.args.mantissa.now c.loop-byte.byte-index 0 - 48) _ (take (c.loop-byte.left - 1) (filter is_digit (drop (c.loop-byte.byte-index + 1) c.args.mantissa.now))) e c.requires in omega (arith, l)

pub overflow_add-value : goal.overflow_add-value
overflow_add-value c =
    let e = digit_step c.args.mantissa.now c.loop-byte.byte-index c.loop-byte.value c.loop-byte.left _ c.loop-byte-test.true (sym c.if-not-is_ascii_digit.ensures.value) c.if-left-eq0.false c.loop-byte.invariant in
    let l = digit_fits c.loop-byte.value (get_or c.args.mantissa.now c.loop-byte.byte-index 0 - 48) _ (take (c.loop-byte.left - 1) (filter is_digit (drop (c.loop-byte.byte-index + 1) c.args.mantissa.now))) e c.requires in omega (arith, l)

pub loop-byte-preserved : goal.loop-byte-preserved
loop-byte-preserved c = digit_step c.args.mantissa.now c.loop-byte.byte-index c.loop-byte.value c.loop-byte.left _ c.loop-byte-test.true (sym c.if-not-is_ascii_digit.ensures.value) c.if-left-eq0.false c.loop-byte.invariant
