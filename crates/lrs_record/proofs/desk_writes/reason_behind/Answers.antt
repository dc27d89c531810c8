use Rattle.lrs_record.proofs.WordReading.{reason_read, reason_unread}
use Rattle.lrs_fields.proofs.Sequences.{failed}
use Rattle.lrs_record.proofs.desk_writes.reason_behind.Goals as goal

pub returns-in_err-text : goal.returns-in_err-text
returns-in_err-text c = failed _ c.from_residual.ensures.1 (reason_unread c.args.front.now _ _ _ _ c.in_err-text.ensures)

pub returns : goal.returns
returns c = reason_read c.args.front.now _ _ _ _ _ _ c.as_str.ensures.lent c.in_ok-text.ensures c.of.ensures.value c.ok_or.ensures.value
