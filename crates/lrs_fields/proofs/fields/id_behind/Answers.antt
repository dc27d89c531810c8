use Rattle.lrs_names.specs.Ids.{IsId, id_text}
use Rattle.lrs_names.proofs.IdTexts.{IsUtf8-id_text}
use Rattle.lrs_fields.specs.Reading.{IsKeptValue}
use Rattle.lrs_fields.specs.Values.{id_value}
use Rattle.lrs_fields.proofs.FieldValues.{spelled, unspelled}
use Rattle.lrs_fields.proofs.Sequences.{failed}
use Rattle.lrs_fields.proofs.fields.id_behind.Goals as goal

pub returns-in_err-text : goal.returns-in_err-text
returns-in_err-text c = failed _ c.from_residual.ensures.1 (unspelled c.args.front.now id_text IsId (IsKeptValue id_value) _ _ _ _ (λ id is. (is.0, IsUtf8-id_text id)) c.in_err-text.ensures)

pub returns : goal.returns
returns c =
    spelled c.args.front.now id_text IsId (IsKeptValue id_value) _ _ _ _ _ (λ id is utf8. (is, tt)) (λ id is. (is.0, IsUtf8-id_text id)) c.as_bytes.ensures.lent c.in_ok-text.ensures c.id_of.ensures
