use Rattle.std.proofs.Common.{◌≡◌, ◌≤◌, length, take, arith, min, ℕ}
use Rattle.lrs_time.proofs.DigitLemmas.{AllDigits-take, cut_fits, length_take_le}
use Rattle.lrs_decimal.proofs.NumeralLemmas.{pow_le}
use Rattle.lrs_time.proofs.digits.cut.Goals as goal

pub digits_value-requires-clause-digits : goal.digits_value-requires-clause-digits
digits_value-requires-clause-digits c = AllDigits-take c.min.result c.args.digits.now c.requires.digits

kept_le : (n len decimals k : ℕ) → k ≤ n → n ≡ min len decimals → k ≤ decimals
kept_le n len decimals k h e = omega arith

pub overflow_mul-result : goal.overflow_mul-result
overflow_mul-result c =
    let few : length (take c.min.result c.args.digits.now) ≤ c.args.decimals = kept_le c.min.result (length c.args.digits.now) c.args.decimals (length (take c.min.result c.args.digits.now)) (length_take_le c.min.result c.args.digits.now) c.min.ensures in
    let fits = cut_fits c.digits_value.result (length (take c.min.result c.args.digits.now)) c.args.decimals c.digits_value.ensures.bound few in
    let top = pow_le c.args.decimals 9 c.requires.few in
    rw c.pow.ensures (omega arith)

pub returns-clause-bound : goal.returns-clause-bound
returns-clause-bound c =
    let few : length (take c.min.result c.args.digits.now) ≤ c.args.decimals = kept_le c.min.result (length c.args.digits.now) c.args.decimals (length (take c.min.result c.args.digits.now)) (length_take_le c.min.result c.args.digits.now) c.min.ensures in
    rw c.pow.ensures (cut_fits c.digits_value.result (length (take c.min.result c.args.digits.now)) c.args.decimals c.digits_value.ensures.bound few)
