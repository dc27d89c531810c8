use Rattle.std.proofs.Common.{[], Ok, Err}
use Rattle.lrs_fields.proofs.Sequences.{failed}
use Rattle.lrs_json_reader.specs.declared.cursor.Stop.TheVariants.{Memory}
use Rattle.lrs_record.proofs.EntryReading.{entry_read}
use Rattle.lrs_record.proofs.reading.read_next.Goals as goal

pub returns-in_err-caller : goal.returns-in_err-caller
returns-in_err-caller c = failed _ c.from_residual.ensures.1 (entry_read _ _ [] [] _ (Err _) (Err Memory) (Err Memory) (Err Memory) c.in_err-caller.ensures tt tt tt)

pub returns-in_err-moment : goal.returns-in_err-moment
returns-in_err-moment c = failed _ c.from_residual-in_err-moment.ensures.1 (entry_read _ _ _ [] _ (Ok _) (Err _) (Err Memory) (Err Memory) c.in_ok-caller.ensures c.in_err-moment.ensures tt tt)

pub returns-in_err-draw : goal.returns-in_err-draw
returns-in_err-draw c = failed _ c.from_residual-in_err-draw.ensures.1 (entry_read _ _ _ _ _ (Ok _) (Ok _) (Err _) (Err Memory) c.in_ok-caller.ensures c.in_ok-moment.ensures c.in_err-draw.ensures tt)

pub returns-in_err-write : goal.returns-in_err-write
returns-in_err-write c = failed _ c.from_residual-in_err-write.ensures.1 (entry_read _ _ _ _ _ (Ok _) (Ok _) (Ok _) (Err _) c.in_ok-caller.ensures c.in_ok-moment.ensures c.in_ok-draw.ensures c.in_err-write.ensures)

pub returns : goal.returns
returns c = entry_read _ _ _ _ _ (Ok _) (Ok _) (Ok _) (Ok _) c.in_ok-caller.ensures c.in_ok-moment.ensures c.in_ok-draw.ensures c.in_ok-write.ensures
