use Rattle.std.proofs.Common.{◌*◌, ◌^◌, ap, ◌∙◌, arith}
use Rattle.std.specs.Ordering.{ordering_reverse}
use Rattle.lrs_decimal.proofs.Comparing.{cmp_aligned, reversed}
use Rattle.lrs_decimal.proofs.decimal.Decimal.cmp_size.Goals as goal

pub returns-then-self-other : goal.returns-then-self-other
returns-then-self-other c = let a = c.args.self.now in let b = c.args.other.now in c.cmp_raised.ensures ∙ cmp_aligned a.coefficient b.coefficient a.scale b.scale c.if-self-other.true

pub returns-else-self-other : goal.returns-else-self-other
returns-else-self-other c =
    let a = c.args.self.now in
    let b = c.args.other.now in
    c.reverse.ensures ∙ ap ordering_reverse (c.cmp_raised-else-self-other.ensures ∙ cmp_aligned b.coefficient a.coefficient b.scale a.scale (omega (arith, c.if-self-other.false)))
    ∙ reversed (b.coefficient * 10 ^ b.scale) (a.coefficient * 10 ^ a.scale)
