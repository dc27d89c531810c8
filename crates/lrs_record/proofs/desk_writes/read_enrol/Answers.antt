-- The fields of `enrol`, and what is read of them.
use Rattle.std.proofs.Common.{ℕ, List, [], ◌∷◌, Result, Ok, Err, OnOk, Option, codes, true, false, refl}
use Rattle.std.proofs.lemmas.Result.{on_ok_weaker}
use Rattle.lrs_agents.specs.declared.agents.Agent.{Agent}
use Rattle.lrs_fields.specs.Reading.{ReadsField, ReadsOptional}
use Rattle.lrs_fields.specs.Values.{actor_value, iri_value, number_value, optional_field}
use Rattle.lrs_fields.proofs.Sequences.{failed, mapped, paired}
use Rattle.lrs_json.specs.Written.{escaped}
use Rattle.lrs_json_reader.specs.declared.cursor.Stop.{Stop}
use Rattle.lrs_json_reader.specs.declared.cursor.Stop.TheVariants.{Memory}
use Rattle.lrs_record.specs.Reading.{ReadsWrite}
use Rattle.lrs_record.proofs.WriteReading.{both_ok, maybe_last, next, write_read}
use Rattle.lrs_record.proofs.Writes.{enrol_of, only_enrol}
use Rattle.lrs_record.proofs.desk_writes.read_enrol.Goals as goal

enrol_read : (old m1 m2 new : List ℕ) (r : Result (List ℕ) Stop) (s : Result Agent Stop) (t : Result (Option ℕ) Stop)
    → ReadsField (codes "\"course\":") iri_value old r m1 → OnOk r (ReadsField (codes ",\"actor\":") actor_value m1 s m2)
    → OnOk r (OnOk s (ReadsOptional (codes ",\"edition\":") number_value m2 t new)) → ReadsWrite (codes "enrol") old (mapped enrol_of (paired r (paired s t))) new
unfolding escaped
enrol_read old m1 m2 new r s t first second third =
    write_read (codes "enrol") enrol_of old new (paired r (paired s t)) (λ p. refl) only_enrol
    (next false (codes "course") iri_value (λ p. (codes "actor", actor_value p.0) ∷ optional_field (codes "edition") number_value p.1) old m1 new r (paired s t) first
    (both_ok r
    (λ x y. next true (codes "actor") actor_value (optional_field (codes "edition") number_value) m1 m2 new s t x (on_ok_weaker s (λ z. maybe_last (codes "edition") number_value m2 new t z) y))
    second third))

pub returns-in_err-course : goal.returns-in_err-course
returns-in_err-course c = failed _ c.from_residual.ensures.1 (enrol_read _ _ [] _ (Err _) (Err Memory) (Err Memory) c.in_err-course.ensures tt tt)

pub returns-in_err-actor : goal.returns-in_err-actor
returns-in_err-actor c = failed _ c.from_residual-in_err-actor.ensures.1 (enrol_read _ _ _ _ (Ok _) (Err _) (Err Memory) c.in_ok-course.ensures c.in_err-actor.ensures tt)

pub returns-in_err-edition : goal.returns-in_err-edition
returns-in_err-edition c = failed _ c.from_residual-in_err-edition.ensures.1 (enrol_read _ _ _ _ (Ok _) (Ok _) (Err _) c.in_ok-course.ensures c.in_ok-actor.ensures c.in_err-edition.ensures.read)

pub returns : goal.returns
returns c = enrol_read _ _ _ _ (Ok _) (Ok _) (Ok _) c.in_ok-course.ensures c.in_ok-actor.ensures c.in_ok-edition.ensures.read
