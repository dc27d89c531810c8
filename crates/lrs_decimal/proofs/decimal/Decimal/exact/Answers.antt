use Rattle.std.proofs.Common.{ap, ◌∙◌, arith}
use Rattle.std.specs.List.{filter}
use Rattle.lrs_decimal.specs.Numbers.{is_digit}
use Rattle.lrs_decimal.specs.Range.{trailing_zeros}
use Rattle.lrs_decimal.proofs.Exact.{Counted, in_range, all_zero, some_digit, kept, small_scale, zero_means, coefficient_small, exact_means}
use Rattle.lrs_decimal.proofs.decimal.Decimal.exact.Goals as goal

pub returns-then-leading_zeros-digits : goal.returns-then-leading_zeros-digits
returns-then-leading_zeros-digits c =
    let counted : Counted c.args.spelling.now c.mantissa-mantissa.result.now c.count-digits.result c.leading_zeros.result =
    record { part = c.mantissa-mantissa.ensures.value; digits_are = c.count-digits.ensures.value; leading_are = c.leading_zeros.ensures.value } in
    zero_means c.args.spelling.now _ (all_zero _ _ _ _ counted c.if-leading_zeros-digits.true)

pub coefficient-requires : goal.coefficient-requires
coefficient-requires c =
    let counted : Counted c.args.spelling.now c.mantissa-mantissa.result.now c.count-digits.result c.leading_zeros.result =
    record { part = c.mantissa-mantissa.ensures.value; digits_are = c.count-digits.ensures.value; leading_are = c.leading_zeros.ensures.value } in
    let some = some_digit _ _ _ _ counted c.if-leading_zeros-digits.false in
    let h = coefficient_small c.args.spelling.now (in_range c.args.spelling.now c.requires) some in
    let k = kept _ _ _ _ _ _ counted c.trailing_zeros-zeros.ensures.value c.saturating_sub.ensures in
    omega (arith, h, k)

pub invariant_of-result-2 : goal.invariant_of-result-2
invariant_of-result-2 c =
    let counted : Counted c.args.spelling.now c.mantissa-mantissa.result.now c.count-digits.result c.leading_zeros.result =
    record { part = c.mantissa-mantissa.ensures.value; digits_are = c.count-digits.ensures.value; leading_are = c.leading_zeros.ensures.value } in
    let some = some_digit _ _ _ _ counted c.if-leading_zeros-digits.false in
    let r = in_range c.args.spelling.now c.requires in
    let h = coefficient_small c.args.spelling.now r some in
    let k = kept _ _ _ _ _ _ counted c.trailing_zeros-zeros.ensures.value c.saturating_sub.ensures in
    let zeros = c.trailing_zeros-zeros.ensures.value ∙ ap (λ m. trailing_zeros (filter is_digit m)) c.mantissa-mantissa.ensures.value in
    let scale = small_scale c.args.spelling.now _ _ _ _ r some c.point_right.ensures.value c.point_left-left.ensures.value zeros c.saturating_sub-scale.ensures in
    record { few_digits = omega (arith, c.coefficient.ensures, h, k); small_scale = scale.1 }

pub returns : goal.returns
returns c =
    let counted : Counted c.args.spelling.now c.mantissa-mantissa.result.now c.count-digits.result c.leading_zeros.result =
    record { part = c.mantissa-mantissa.ensures.value; digits_are = c.count-digits.ensures.value; leading_are = c.leading_zeros.ensures.value } in
    let some = some_digit _ _ _ _ counted c.if-leading_zeros-digits.false in
    let r = in_range c.args.spelling.now c.requires in
    let k = kept _ _ _ _ _ _ counted c.trailing_zeros-zeros.ensures.value c.saturating_sub.ensures in
    let zeros = c.trailing_zeros-zeros.ensures.value ∙ ap (λ m. trailing_zeros (filter is_digit m)) c.mantissa-mantissa.ensures.value in
    let scale = small_scale c.args.spelling.now _ _ _ _ r some c.point_right.ensures.value c.point_left-left.ensures.value zeros c.saturating_sub-scale.ensures in
    exact_means c.args.spelling.now _ _ _ c.is_negative.ensures (c.coefficient.ensures ∙ k) scale.0 (r.above some)
