use Rattle.std.proofs.Common.{arith}
use Rattle.lrs_time.proofs.DigitLemmas.{AllDigits-run}
use Rattle.lrs_time.proofs.digits.read_numeral.Goals as goal

pub returns-clause-numeral : goal.returns-clause-numeral
returns-clause-numeral c = record {
  digits = rw (c.split_at.ensures.front, c.digits_len-len.ensures.value) (AllDigits-run c.args.text.now);
  some = omega arith;
  few = omega arith;
}
