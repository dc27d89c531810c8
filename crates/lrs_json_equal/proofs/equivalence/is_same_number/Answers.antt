use Rattle.std.proofs.Common.{sym, subst, true≢false, IsTrue}
use Rattle.lrs_decimal.specs.Numbers.{IsNumber}
use Rattle.lrs_decimal.specs.Range.{is_in_range}
use Rattle.lrs_json_equal.proofs.equivalence.is_same_number.Goals as goal

pub returns-in_default-of : goal.returns-in_default-of
returns-in_default-of c =
    let fits = subst (λ s. IsNumber s × IsTrue (is_in_range s)) (sym c.as_bytes-2.ensures.lent) c.requires.b_fits in
    absurd (true≢false (sym (c.in_default-of.ensures.exact.1 fits)))
