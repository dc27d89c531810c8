use Rattle.std.proofs.Common.{arith, sym, ◌∙◌}
use Rattle.lrs_bodies.proofs.SpelledNumbers.{number_unread}
use Rattle.lrs_bodies.proofs.numbers.number_between.Goals as goal

pub returns-in-Err : goal.returns-in-Err
returns-in-Err c =
    number_unread c.args.lowest c.args.highest c.args.spelling.now c.in-Err.field-0 (omega arith) (sym c.are_digits.ensures ∙ c.if-not-are_digits.false) c.in-Err.ensures.value.0
