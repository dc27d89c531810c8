-- The field of `provider`, and what is read of it.
use Rattle.std.proofs.Common.{ℕ, List, Result, Ok, Err, codes, false, refl}
use Rattle.lrs_fields.specs.Reading.{ReadsField}
use Rattle.lrs_fields.specs.Values.{text_value}
use Rattle.lrs_fields.proofs.Sequences.{failed, mapped}
use Rattle.lrs_json.specs.Written.{escaped}
use Rattle.lrs_json_reader.specs.declared.cursor.Stop.{Stop}
use Rattle.lrs_record.specs.Reading.{ReadsWrite}
use Rattle.lrs_record.specs.declared.entry.Write.TheVariants.{Provider}
use Rattle.lrs_record.proofs.WriteReading.{last, write_read}
use Rattle.lrs_record.proofs.Writes.{only_provider}
use Rattle.lrs_record.proofs.desk_writes.read_provider.Goals as goal

provider_read : (old new : List ℕ) (r : Result (List ℕ) Stop) → ReadsField (codes "\"name\":") text_value old r new → ReadsWrite (codes "provider") old (mapped Provider r) new
unfolding escaped
provider_read old new r first = write_read (codes "provider") Provider old new r (λ a. refl) only_provider (last false (codes "name") text_value old new r first)

pub returns-in_err-name : goal.returns-in_err-name
returns-in_err-name c = failed _ c.from_residual.ensures.1 (provider_read _ _ (Err _) c.in_err-name.ensures)

pub returns : goal.returns
returns c = provider_read _ _ (Ok _) c.in_ok-name.ensures
