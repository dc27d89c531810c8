use Rattle.std.proofs.Common.{◌≡◌, Ok, arith, sym, ap, ◌∙◌}
use Rattle.std.specs.Fmt.{decimal}
use Rattle.std.proofs.lemmas.Bool.{false≢true}
use Rattle.std.proofs.lemmas.Fmt.{decimal_injective, parse-decimal}
use Rattle.lrs_fields.proofs.digits.number_of.Goals as goal

pub returns-then-is_printed : goal.returns-then-is_printed
returns-then-is_printed c =
    let n = c.in-Ok.number in
    let own : c.args.spelling.now ≡ decimal n = c.is_printed.ensures.0 c.if-is_printed.true ∙ ap decimal c.from.ensures in
    record {
      found = ((omega arith, tt), own);
      all = λ m may same. decimal_injective n m (omega arith) (omega (arith, may.0)) (sym own ∙ same);
    }

pub returns-else-is_printed : goal.returns-else-is_printed
returns-else-is_printed c =
    record {
      found = tt;
      all = λ m may same.
          let parsed : c.parse.result ≡ Ok m = parse-decimal 32 m _ c.parse.result may.0 (omega (arith, may.0)) same c.parse.ensures.value.0 in
          let number : c.in-Ok.number ≡ m = cc (sym c.in-Ok.is ∙ parsed) in
          absurd (false≢true (sym c.if-is_printed.false ∙ c.is_printed.ensures.1 (same ∙ ap decimal (sym (c.from.ensures ∙ number)))));
    }

pub returns-in-Err : goal.returns-in-Err
returns-in-Err c =
    record {
      found = tt;
      all = λ m may same.
          let parsed : c.parse.result ≡ Ok m = parse-decimal 32 m _ c.parse.result may.0 (omega (arith, may.0)) same c.parse.ensures.value.0 in
          absurd (cc (sym c.in-Err.is ∙ parsed));
    }
