use Rattle.std.proofs.Common.{◌≡◌, ◌<◌, ◌≤◌, ◌^◌, ℕ, List, Result, Ok, arith, min, sym, ap, ◌∙◌}
use Rattle.std.specs.Fmt.{decimal}
use Rattle.std.specs.Str.Parse.{ParsesUnsigned}
use Rattle.std.proofs.lemmas.Bool.{false≢true}
use Rattle.std.proofs.lemmas.Fmt.{parse-decimal}
use Rattle.lrs_time.specs.declared.moments.TheConstants.{LATEST}
use Rattle.lrs_record.proofs.headings.moment_of.Goals as goal

-- the number that is read of a moment's digits is that moment
own_moment : {E : Type 0} (text : List ℕ) (read : Result ℕ E) (n m : ℕ) → ParsesUnsigned 64 10 text read → read ≡ Ok n → m ≤ LATEST → text ≡ decimal m → min n LATEST ≡ m
own_moment text read n m parsed is may same =
    let small_word : m < 2 ^ 64 = omega (arith, may) in
    let told : read ≡ Ok m = parse-decimal 64 m text read small_word small_word same parsed in
    let number : n ≡ m = cc (sym is ∙ told) in omega (arith, number, may)

pub returns-then-is_printed : goal.returns-then-is_printed
returns-then-is_printed c =
    let kept : c.clamp-moment.result ≤ LATEST = omega (arith, c.milliseconds.ensures.value, c.milliseconds.ensures.bound) in
    record {
      found = (kept, c.is_printed.ensures.0 c.if-is_printed.true ∙ ap decimal c.milliseconds.ensures.value);
      all = λ m may same. c.clamp-moment.ensures ∙ own_moment _ c.parse.result _ m c.parse.ensures.value.0 c.in-Ok.is may same;
    }

pub returns-else-is_printed : goal.returns-else-is_printed
returns-else-is_printed c =
    record {
      found = tt;
      all = λ m may same.
          let own : c.milliseconds.result ≡ m = c.milliseconds.ensures.value ∙ c.clamp-moment.ensures ∙ own_moment _ c.parse.result _ m c.parse.ensures.value.0 c.in-Ok.is may same in
          absurd (false≢true (sym c.if-is_printed.false ∙ c.is_printed.ensures.1 (same ∙ ap decimal (sym own))));
    }

pub returns-in-Err : goal.returns-in-Err
returns-in-Err c =
    record {
      found = tt;
      all = λ m may same.
          let small_word : m < 2 ^ 64 = omega (arith, may) in
          let parsed : c.parse.result ≡ Ok m = parse-decimal 64 m _ c.parse.result small_word small_word same c.parse.ensures.value.0 in
          absurd (cc (sym c.in-Err.is ∙ parsed));
    }
