use Rattle.std.proofs.Common.{Err, codes}
use Rattle.lrs_fields.specs.Digits.{HoldsDraw, draw_text}
use Rattle.lrs_fields.proofs.Words.{IsUtf8-draw_text}
use Rattle.lrs_fields.proofs.FieldValues.{spelled, unspelled}
use Rattle.lrs_fields.proofs.Sequences.{failed}
use Rattle.lrs_record.proofs.EntryReading.{at_draw}
use Rattle.lrs_record.proofs.headings.read_draw.Goals as goal

pub returns-in_err-digits : goal.returns-in_err-digits
returns-in_err-digits c =
    failed _ c.from_residual.ensures.1
    (at_draw _ _ (Err _) (unspelled (codes ",\"draw\":") draw_text HoldsDraw HoldsDraw _ _ _ _ (λ draw is. (is, IsUtf8-draw_text draw)) c.in_err-digits.ensures))

pub returns : goal.returns
returns c =
    at_draw _ _ _
    (spelled (codes ",\"draw\":") draw_text HoldsDraw HoldsDraw _ _ _ _ _ (λ draw is utf8. is) (λ draw is. (is, IsUtf8-draw_text draw)) c.as_bytes.ensures.lent c.in_ok-digits.ensures c.draw_of.ensures)
