use Rattle.lrs_fields.proofs.Sequences.{failed}
use Rattle.lrs_record.proofs.EntryReading.{closing_missing, command_read, fields_failed, opening_failed}
use Rattle.lrs_record.proofs.reading.read_command.Goals as goal

pub returns-in_err-name : goal.returns-in_err-name
returns-in_err-name c = failed _ c.from_residual.ensures.1 (opening_failed _ _ _ _ c.in_err-name.ensures)

pub returns-in-Ok-word : goal.returns-in-Ok-word
returns-in-Ok-word c = command_read _ _ _ _ _ _ _ c.as_str.ensures.lent c.in_ok-name.ensures c.in-Ok.ensures c.in-Ok-word.ensures.found c.in-Ok-word.ensures.all

pub returns-in-Ok : goal.returns-in-Ok
returns-in-Ok c = closing_missing _ _ _ _ _ _ _ _ c.as_str.ensures.lent c.in_ok-name.ensures c.in-Ok.ensures c.in-Err-word.ensures.all

pub returns : goal.returns
returns c = fields_failed _ _ _ _ _ _ _ c.as_str.ensures.lent c.in_ok-name.ensures c.in-Err.ensures
