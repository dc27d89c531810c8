-- The field of `abandon`, and what is read of it.
use Rattle.std.proofs.Common.{ℕ, List, Result, Ok, Err, codes, false, refl}
use Rattle.lrs_fields.specs.Reading.{ReadsField}
use Rattle.lrs_fields.specs.Values.{id_value}
use Rattle.lrs_fields.proofs.Sequences.{failed, mapped}
use Rattle.lrs_json.specs.Written.{escaped}
use Rattle.lrs_json_reader.specs.declared.cursor.Stop.{Stop}
use Rattle.lrs_record.specs.Reading.{ReadsWrite}
use Rattle.lrs_record.specs.declared.entry.Write.TheVariants.{Abandon}
use Rattle.lrs_record.proofs.WriteReading.{last, write_read}
use Rattle.lrs_record.proofs.Writes.{only_abandon}
use Rattle.lrs_record.proofs.desk_writes.read_abandon.Goals as goal

abandon_read : (old new : List ℕ) (r : Result (List ℕ) Stop) → ReadsField (codes "\"session\":") id_value old r new → ReadsWrite (codes "abandon") old (mapped Abandon r) new
unfolding escaped
abandon_read old new r first = write_read (codes "abandon") Abandon old new r (λ a. refl) only_abandon (last false (codes "session") id_value old new r first)

pub returns-in_err-session : goal.returns-in_err-session
returns-in_err-session c = failed _ c.from_residual.ensures.1 (abandon_read _ _ (Err _) c.in_err-session.ensures)

pub returns : goal.returns
returns c = abandon_read _ _ (Ok _) c.in_ok-session.ensures
