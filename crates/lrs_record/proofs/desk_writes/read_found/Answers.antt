-- The fields of `found`, and what is read of them.
use Rattle.std.proofs.Common.{ℕ, List, [], ◌∷◌, Result, Ok, Err, OnOk, codes, true, false, refl}
use Rattle.std.proofs.lemmas.Result.{on_ok_weaker}
use Rattle.lrs_fields.specs.Reading.{ReadsField}
use Rattle.lrs_fields.specs.Values.{text_value}
use Rattle.lrs_fields.proofs.Sequences.{failed, mapped, paired}
use Rattle.lrs_json.specs.Written.{escaped}
use Rattle.lrs_json_reader.specs.declared.cursor.Stop.{Stop}
use Rattle.lrs_json_reader.specs.declared.cursor.Stop.TheVariants.{Memory}
use Rattle.lrs_record.specs.Reading.{ReadsWrite}
use Rattle.lrs_record.proofs.WriteReading.{last, next, write_read}
use Rattle.lrs_record.proofs.Writes.{found_of, only_found}
use Rattle.lrs_record.proofs.desk_writes.read_found.Goals as goal

found_read : (old mid new : List ℕ) (r : Result (List ℕ) Stop) (s : Result (List ℕ) Stop) → ReadsField (codes "\"admin\":") text_value old r mid → OnOk r (ReadsField (codes ",\"base\":") text_value mid s new)
    → ReadsWrite (codes "found") old (mapped found_of (paired r s)) new
unfolding escaped
found_read old mid new r s first second =
    write_read (codes "found") found_of old new (paired r s) (λ p. refl) only_found
    (next false (codes "admin") text_value (λ base. (codes "base", text_value base) ∷ []) old mid new r s first
    (on_ok_weaker r (λ x. last true (codes "base") text_value mid new s x) second))

pub returns-in_err-admin : goal.returns-in_err-admin
returns-in_err-admin c = failed _ c.from_residual.ensures.1 (found_read _ _ _ (Err _) (Err Memory) c.in_err-admin.ensures tt)

pub returns-in_err-base : goal.returns-in_err-base
returns-in_err-base c = failed _ c.from_residual-in_err-base.ensures.1 (found_read _ _ _ (Ok _) (Err _) c.in_ok-admin.ensures c.in_err-base.ensures)

pub returns : goal.returns
returns c = found_read _ _ _ (Ok _) (Ok _) c.in_ok-admin.ensures c.in_ok-base.ensures
