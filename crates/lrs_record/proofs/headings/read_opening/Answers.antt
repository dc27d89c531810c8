use Rattle.std.proofs.Common.{Ok, Err, codes, refl}
use Rattle.lrs_fields.specs.LrsDecimalNumbers.{Ends}
use Rattle.lrs_fields.specs.Reading.{IsKeptValue}
use Rattle.lrs_fields.specs.Values.{text_value}
use Rattle.lrs_record.specs.Reading.{Anything}
use Rattle.lrs_fields.proofs.Sequences.{closed, failed, not_begun, not_closed}
use Rattle.lrs_record.proofs.EntryReading.{at_command, opening_read}
use Rattle.lrs_record.proofs.headings.read_opening.Goals as goal

pub returns-in_err-name : goal.returns-in_err-name
returns-in_err-name c = failed _ c.from_residual.ensures.1 (opening_read _ _ (Err _) (not_begun at_command (codes ":{") (IsKeptValue text_value) Ends Anything _ _ _ _ c.in_err-name.ensures (λ rest f. refl)))

pub returns-in_err-word : goal.returns-in_err-word
returns-in_err-word c =
    failed _ c.from_residual-in_err-word.ensures.1
    (opening_read _ _ (Err _) (not_closed at_command (codes ":{") (IsKeptValue text_value) Ends Anything _ _ _ _ _ c.in_ok-name.ensures c.in_err-word.ensures.all (λ rest f. refl)))

pub returns : goal.returns
returns c =
    opening_read _ _ (Ok _)
    (closed at_command (codes ":{") (IsKeptValue text_value) Ends Anything _ _ _ _ c.in_ok-name.ensures c.in_ok-word.ensures.found c.in_ok-word.ensures.all (λ rest f. refl))
