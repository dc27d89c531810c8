use Rattle.std.proofs.Common.{ℕ, arith}
use Rattle.std.specs.Fmt.{decimal}
use Rattle.lrs_decimal.specs.Numbers.{IsNumber}
use Rattle.lrs_fields.specs.Reading.{IsKeptValue}
use Rattle.lrs_fields.specs.Values.{number_value}
use Rattle.lrs_fields.proofs.FieldValues.{IsNumber-decimal, no_number, numbered}
use Rattle.lrs_fields.proofs.Sequences.{after_word, failed, no_word}
use Rattle.lrs_fields.proofs.fields.number_behind.Goals as goal

is_number : (n : ℕ) → IsKeptValue number_value n → IsNumber (decimal n)
is_number n is = IsNumber-decimal n (omega (arith, is.0))

pub returns-in_err-word : goal.returns-in_err-word
returns-in_err-word c = failed _ c.from_residual.ensures.1 (no_word c.args.front.now decimal _ _ _ _ _ c.in_err-word.ensures.all)

pub returns-in_err-spelling : goal.returns-in_err-spelling
returns-in_err-spelling c =
    failed _ c.from_residual-in_err-spelling.ensures.1
    (after_word c.args.front.now decimal _ _ _ _ _ _ c.in_ok-word.ensures.found c.in_ok-word.ensures.all (no_number decimal _ _ _ _ is_number c.in_err-spelling.ensures.all))

pub returns : goal.returns
returns c =
    after_word c.args.front.now decimal _ _ _ _ _ _ c.in_ok-word.ensures.found c.in_ok-word.ensures.all
    (numbered decimal _ _ _ _ _ _ is_number c.as_str.ensures.lent c.in_ok-spelling.ensures.found.0 c.in_ok-spelling.ensures.all c.number_of.ensures)
