-- The fields of `launch`, and what is read of them.
use Rattle.std.proofs.Common.{ℕ, List, [], ◌∷◌, Result, Ok, Err, OnOk, Option, codes, true, false, refl}
use Rattle.std.proofs.lemmas.Result.{on_ok_weaker}
use Rattle.cmi5_course.specs.declared.launch.Mode.{Mode}
use Rattle.lrs_fields.specs.Reading.{ReadsField, ReadsOptional}
use Rattle.lrs_fields.specs.Values.{id_value, iri_value, optional_field}
use Rattle.lrs_fields.proofs.Sequences.{failed, mapped, paired}
use Rattle.lrs_json.specs.Written.{escaped}
use Rattle.lrs_json_reader.specs.declared.cursor.Stop.{Stop}
use Rattle.lrs_json_reader.specs.declared.cursor.Stop.TheVariants.{Memory}
use Rattle.lrs_record.specs.Reading.{ReadsWrite}
use Rattle.lrs_record.proofs.WordReading.{mode_value}
use Rattle.lrs_record.proofs.WriteReading.{both_ok, maybe_last, next, write_read}
use Rattle.lrs_record.proofs.Writes.{launch_of, only_launch}
use Rattle.lrs_record.proofs.desk_writes.read_launch.Goals as goal

launch_read : (old m1 m2 m3 new : List ℕ) (r : Result (List ℕ) Stop) (s : Result (List ℕ) Stop) (t : Result Mode Stop) (u : Result (Option (List ℕ)) Stop)
    → ReadsField (codes "\"registration\":") id_value old r m1 → OnOk r (ReadsField (codes ",\"unit\":") iri_value m1 s m2) → OnOk r (OnOk s (ReadsField (codes ",\"mode\":") mode_value m2 t m3))
    → OnOk r (OnOk s (OnOk t (ReadsOptional (codes ",\"returnURL\":") iri_value m3 u new))) → ReadsWrite (codes "launch") old (mapped launch_of (paired r (paired s (paired t u)))) new
unfolding escaped
launch_read old m1 m2 m3 new r s t u first second third fourth =
    write_read (codes "launch") launch_of old new (paired r (paired s (paired t u))) (λ p. refl) only_launch
    (next false (codes "registration") id_value (λ p. (codes "unit", iri_value p.0) ∷ (codes "mode", mode_value p.1.0) ∷ optional_field (codes "returnURL") iri_value p.1.1) old m1 new r (paired s (paired t u)) first
    (both_ok r
    (λ x y. next true (codes "unit") iri_value (λ p. (codes "mode", mode_value p.0) ∷ optional_field (codes "returnURL") iri_value p.1) m1 m2 new s (paired t u) x y)
    second
    (both_ok r
    (λ x y. both_ok s
    (λ a b. next true (codes "mode") mode_value (optional_field (codes "returnURL") iri_value) m2 m3 new t u a (on_ok_weaker t (λ z. maybe_last (codes "returnURL") iri_value m3 new u z) b)) x y)
    third fourth)))

pub returns-in_err-registration : goal.returns-in_err-registration
returns-in_err-registration c = failed _ c.from_residual.ensures.1 (launch_read _ _ [] [] _ (Err _) (Err Memory) (Err Memory) (Err Memory) c.in_err-registration.ensures tt tt tt)

pub returns-in_err-unit : goal.returns-in_err-unit
returns-in_err-unit c = failed _ c.from_residual-in_err-unit.ensures.1 (launch_read _ _ _ [] _ (Ok _) (Err _) (Err Memory) (Err Memory) c.in_ok-registration.ensures c.in_err-unit.ensures tt tt)

pub returns-in_err-mode : goal.returns-in_err-mode
returns-in_err-mode c = failed _ c.from_residual-in_err-mode.ensures.1 (launch_read _ _ _ _ _ (Ok _) (Ok _) (Err _) (Err Memory) c.in_ok-registration.ensures c.in_ok-unit.ensures c.in_err-mode.ensures tt)

pub returns-in_err-return_url : goal.returns-in_err-return_url
returns-in_err-return_url c = failed _ c.from_residual-in_err-return_url.ensures.1 (launch_read _ _ _ _ _ (Ok _) (Ok _) (Ok _) (Err _) c.in_ok-registration.ensures c.in_ok-unit.ensures c.in_ok-mode.ensures c.in_err-return_url.ensures.read)

pub returns : goal.returns
returns c = launch_read _ _ _ _ _ (Ok _) (Ok _) (Ok _) (Ok _) c.in_ok-registration.ensures c.in_ok-unit.ensures c.in_ok-mode.ensures c.in_ok-return_url.ensures.read
