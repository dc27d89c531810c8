use Rattle.std.proofs.Common.{sym, ◌∙◌, true≢false}
use Rattle.lrs_decimal.proofs.Comparing.{negative_less, positive_more}
use Rattle.lrs_decimal.proofs.decimal.Decimal.cmp_units.Goals as goal

pub returns-in-true-false : goal.returns-in-true-false
returns-in-true-false c = negative_less c.args.self.now c.args.other.now c.in-true-false.is-0 c.in-true-false.is-1 (λ z. true≢false (sym (c.are_zero.ensures.1 z) ∙ c.if-are_zero.false))

pub returns-in-false-true : goal.returns-in-false-true
returns-in-false-true c = positive_more c.args.self.now c.args.other.now c.in-false-true.is-0 c.in-false-true.is-1 (λ z. true≢false (sym (c.are_zero.ensures.1 z) ∙ c.if-are_zero.false))
