-- The field of `fetch`, and what is read of it.
use Rattle.std.proofs.Common.{ℕ, List, Result, Ok, Err, codes, false, refl}
use Rattle.lrs_fields.specs.Reading.{ReadsField}
use Rattle.lrs_fields.specs.Values.{text_value}
use Rattle.lrs_fields.proofs.Sequences.{failed, mapped}
use Rattle.lrs_json.specs.Written.{escaped}
use Rattle.lrs_json_reader.specs.declared.cursor.Stop.{Stop}
use Rattle.lrs_record.specs.Reading.{ReadsWrite}
use Rattle.lrs_record.specs.declared.entry.Write.TheVariants.{Fetch}
use Rattle.lrs_record.proofs.WriteReading.{last, write_read}
use Rattle.lrs_record.proofs.Writes.{only_fetch}
use Rattle.lrs_record.proofs.desk_writes.read_fetch.Goals as goal

fetch_read : (old new : List ℕ) (r : Result (List ℕ) Stop) → ReadsField (codes "\"key\":") text_value old r new → ReadsWrite (codes "fetch") old (mapped Fetch r) new
unfolding escaped
fetch_read old new r first = write_read (codes "fetch") Fetch old new r (λ a. refl) only_fetch (last false (codes "key") text_value old new r first)

pub returns-in_err-key : goal.returns-in_err-key
returns-in_err-key c = failed _ c.from_residual.ensures.1 (fetch_read _ _ (Err _) c.in_err-key.ensures)

pub returns : goal.returns
returns c = fetch_read _ _ (Ok _) c.in_ok-key.ensures
