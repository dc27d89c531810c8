use Rattle.std.proofs.Common.{◌^◌, ap, ◌∙◌}
use Rattle.std.specs.Ordering.{nat_cmp, ordering_then}
use Rattle.lrs_decimal.proofs.Comparing.{parted}
use Rattle.lrs_decimal.proofs.decimal.cmp_raised.Goals as goal

pub returns : goal.returns
returns c =
    let parts = c.parts_of-whole.ensures in
    c.then.ensures ∙ ap (λ o. ordering_then o c.cmp-2.result) c.cmp.ensures ∙ ap (ordering_then (nat_cmp c.args.number c.parts_of-whole.result.0)) c.cmp-2.ensures
    ∙ parted c.args.number c.parts_of-whole.result.0 c.parts_of-whole.result.1 (10 ^ c.args.power) c.args.other parts.whole parts.rest
