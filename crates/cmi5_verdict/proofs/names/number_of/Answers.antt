use Rattle.std.proofs.Common.{◌≡◌, ◌∙◌, false, sym, subst, arith}
use Rattle.std.specs.Fmt.{decimal}
use Rattle.std.specs.Str.{bytes_eq}
use Rattle.cmi5_verdict.proofs.Named.{not_printed, printed}
use Rattle.cmi5_verdict.proofs.names.number_of.Goals as goal

pub returns-then-is_printed : goal.returns-then-is_printed
returns-then-is_printed c = λ number small. printed c.args.digits.now c.in-Ok.number number (omega arith) small (sym c.is_printed.ensures ∙ c.if-is_printed.true)

pub returns-else-is_printed : goal.returns-else-is_printed
returns-else-is_printed c = λ number small.
    not_printed c.args.digits.now c.parse.result number c.parse.ensures.value.0 small
    (λ found is. let same : c.in-Ok.number ≡ found = cc (sym c.in-Ok.is ∙ is) in
    subst (λ n. bytes_eq c.args.digits.now (decimal n) ≡ false) same (sym c.is_printed.ensures ∙ c.if-is_printed.false))

pub returns-in-Err : goal.returns-in-Err
returns-in-Err c = λ number small. not_printed c.args.digits.now c.parse.result number c.parse.ensures.value.0 small (λ found is. absurd (cc (sym c.in-Err.is ∙ is)))
