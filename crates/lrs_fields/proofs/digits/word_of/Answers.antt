use Rattle.std.proofs.Common.{Some, ap, refl, ◌∙◌}
use Rattle.lrs_fields.proofs.Words.{word_found, word_missing}
use Rattle.lrs_fields.proofs.digits.word_of.Goals as goal

pub returns-in-Ok : goal.returns-in-Ok
returns-in-Ok c = ap Some c.from_be_bytes.ensures ∙ word_found c.args.digits.now _ _ c.in-Ok.ensures.value refl

pub returns-in-Err : goal.returns-in-Err
returns-in-Err c = word_missing c.args.digits.now _ _ c.in-Err.field-0 c.in-Err.ensures.value refl
