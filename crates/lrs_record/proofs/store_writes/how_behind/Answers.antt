use Rattle.lrs_record.proofs.WordReading.{how_read, how_unread}
use Rattle.lrs_fields.proofs.Sequences.{failed}
use Rattle.lrs_record.proofs.store_writes.how_behind.Goals as goal

pub returns-in_err-text : goal.returns-in_err-text
returns-in_err-text c = failed _ c.from_residual.ensures.1 (how_unread c.args.front.now _ _ _ _ c.in_err-text.ensures)

pub returns : goal.returns
returns c = how_read c.args.front.now _ _ _ _ _ _ c.as_str.ensures.lent c.in_ok-text.ensures c.of.ensures c.ok_or.ensures.value
