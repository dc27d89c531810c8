use Rattle.hex.specs.Hex.{IsBytes, encode_lower}
use Rattle.lrs_fields.specs.Reading.{IsKeptValue}
use Rattle.lrs_fields.specs.Values.{bytes_value}
use Rattle.lrs_fields.proofs.Words.{IsUtf8-digits}
use Rattle.lrs_fields.proofs.FieldValues.{spelled, unspelled}
use Rattle.lrs_fields.proofs.Sequences.{failed}
use Rattle.lrs_fields.proofs.fields.bytes_behind.Goals as goal

pub returns-in_err-digits : goal.returns-in_err-digits
returns-in_err-digits c = failed _ c.from_residual.ensures.1 (unspelled c.args.front.now encode_lower IsBytes (IsKeptValue bytes_value) _ _ _ _ (λ bytes is. (is.0, IsUtf8-digits bytes)) c.in_err-digits.ensures)

pub returns : goal.returns
returns c =
    spelled c.args.front.now encode_lower IsBytes (IsKeptValue bytes_value) _ _ _ _ _ (λ bytes is utf8. (is, tt)) (λ bytes is. (is.0, IsUtf8-digits bytes)) c.as_bytes.ensures.lent c.in_ok-digits.ensures c.bytes_of.ensures
