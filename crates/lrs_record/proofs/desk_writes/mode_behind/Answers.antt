use Rattle.lrs_record.proofs.WordReading.{mode_read, mode_unread}
use Rattle.lrs_fields.proofs.Sequences.{failed}
use Rattle.lrs_record.proofs.desk_writes.mode_behind.Goals as goal

pub returns-in_err-text : goal.returns-in_err-text
returns-in_err-text c = failed _ c.from_residual.ensures.1 (mode_unread c.args.front.now _ _ _ _ c.in_err-text.ensures)

pub returns : goal.returns
returns c = mode_read c.args.front.now _ _ _ _ _ _ c.as_str.ensures.lent c.in_ok-text.ensures c.of.ensures.value c.ok_or.ensures.value
