-- The fields of `waive`, and what is read of them.
use Rattle.std.proofs.Common.{ℕ, List, [], ◌∷◌, Result, Ok, Err, OnOk, codes, true, false, refl}
use Rattle.std.proofs.lemmas.Result.{on_ok_weaker}
use Rattle.cmi5_course.specs.declared.reason.Reason.{Reason}
use Rattle.lrs_fields.specs.Reading.{ReadsField}
use Rattle.lrs_fields.specs.Values.{id_value, iri_value}
use Rattle.lrs_fields.proofs.Sequences.{failed, mapped, paired}
use Rattle.lrs_json.specs.Written.{escaped}
use Rattle.lrs_json_reader.specs.declared.cursor.Stop.{Stop}
use Rattle.lrs_json_reader.specs.declared.cursor.Stop.TheVariants.{Memory}
use Rattle.lrs_record.specs.Reading.{ReadsWrite}
use Rattle.lrs_record.proofs.WordReading.{reason_value}
use Rattle.lrs_record.proofs.WriteReading.{both_ok, last, next, write_read}
use Rattle.lrs_record.proofs.Writes.{only_waive, waive_of}
use Rattle.lrs_record.proofs.desk_writes.read_waive.Goals as goal

waive_read : (old mid more new : List ℕ) (r : Result (List ℕ) Stop) (s : Result (List ℕ) Stop) (t : Result Reason Stop) → ReadsField (codes "\"registration\":") id_value old r mid
    → OnOk r (ReadsField (codes ",\"unit\":") iri_value mid s more) → OnOk r (OnOk s (ReadsField (codes ",\"reason\":") reason_value more t new))
    → ReadsWrite (codes "waive") old (mapped waive_of (paired r (paired s t))) new
unfolding escaped
waive_read old mid more new r s t first second third =
    write_read (codes "waive") waive_of old new (paired r (paired s t)) (λ p. refl) only_waive
    (next false (codes "registration") id_value (λ p. (codes "unit", iri_value p.0) ∷ (codes "reason", reason_value p.1) ∷ []) old mid new r (paired s t) first
    (both_ok r
    (λ x y. next true (codes "unit") iri_value (λ reason. (codes "reason", reason_value reason) ∷ []) mid more new s t x (on_ok_weaker s (λ z. last true (codes "reason") reason_value more new t z) y))
    second third))

pub returns-in_err-registration : goal.returns-in_err-registration
returns-in_err-registration c = failed _ c.from_residual.ensures.1 (waive_read _ _ [] _ (Err _) (Err Memory) (Err Memory) c.in_err-registration.ensures tt tt)

pub returns-in_err-unit : goal.returns-in_err-unit
returns-in_err-unit c = failed _ c.from_residual-in_err-unit.ensures.1 (waive_read _ _ _ _ (Ok _) (Err _) (Err Memory) c.in_ok-registration.ensures c.in_err-unit.ensures tt)

pub returns-in_err-reason : goal.returns-in_err-reason
returns-in_err-reason c = failed _ c.from_residual-in_err-reason.ensures.1 (waive_read _ _ _ _ (Ok _) (Ok _) (Err _) c.in_ok-registration.ensures c.in_ok-unit.ensures c.in_err-reason.ensures)

pub returns : goal.returns
returns c = waive_read _ _ _ _ (Ok _) (Ok _) (Ok _) c.in_ok-registration.ensures c.in_ok-unit.ensures c.in_ok-reason.ensures
