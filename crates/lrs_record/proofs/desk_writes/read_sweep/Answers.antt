-- The field of `sweep`, and what is read of it.
use Rattle.std.proofs.Common.{ℕ, List, Result, Ok, Err, codes, false, refl}
use Rattle.lrs_fields.specs.Reading.{ReadsField}
use Rattle.lrs_fields.specs.Values.{number_value}
use Rattle.lrs_fields.proofs.Sequences.{failed, mapped}
use Rattle.lrs_json.specs.Written.{escaped}
use Rattle.lrs_json_reader.specs.declared.cursor.Stop.{Stop}
use Rattle.lrs_record.specs.Reading.{ReadsWrite}
use Rattle.lrs_record.specs.declared.entry.Write.TheVariants.{Sweep}
use Rattle.lrs_record.proofs.WriteReading.{last, write_read}
use Rattle.lrs_record.proofs.Writes.{only_sweep}
use Rattle.lrs_record.proofs.desk_writes.read_sweep.Goals as goal

sweep_read : (old new : List ℕ) (r : Result ℕ Stop) → ReadsField (codes "\"idle\":") number_value old r new → ReadsWrite (codes "sweep") old (mapped Sweep r) new
unfolding escaped
sweep_read old new r first = write_read (codes "sweep") Sweep old new r (λ a. refl) only_sweep (last false (codes "idle") number_value old new r first)

pub returns-in_err-idle : goal.returns-in_err-idle
returns-in_err-idle c = failed _ c.from_residual.ensures.1 (sweep_read _ _ (Err _) c.in_err-idle.ensures)

pub returns : goal.returns
returns c = sweep_read _ _ (Ok _) c.in_ok-idle.ensures
