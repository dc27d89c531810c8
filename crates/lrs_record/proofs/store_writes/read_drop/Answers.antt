-- The fields of `drop`, and what is read of them.
use Rattle.std.proofs.Common.{ℕ, List, [], ◌∷◌, ◌++◌, Result, Ok, Err, OnOk, Option, Some, None, codes, true, false, refl}
use Rattle.std.proofs.lemmas.Result.{on_ok_weaker}
use Rattle.lrs_agents.specs.declared.identifiers.Ifi.{Ifi}
use Rattle.lrs_fields.specs.Reading.{IsMissing, ReadsField, ReadsOptional}
use Rattle.lrs_fields.specs.Values.{text_value, id_value, iri_value, agent_value, optional_field}
use Rattle.lrs_fields.proofs.Differing.{differ_at}
use Rattle.lrs_fields.proofs.Sequences.{failed, mapped, paired}
use Rattle.lrs_json.specs.Texts.{name_text}
use Rattle.lrs_json.specs.Written.{escaped}
use Rattle.lrs_json_reader.specs.declared.cursor.Stop.{Stop}
use Rattle.lrs_json_reader.specs.declared.cursor.Stop.TheVariants.{Memory}
use Rattle.lrs_record.specs.Reading.{IsClosed, ReadsWrite}
use Rattle.lrs_record.proofs.WriteReading.{Fields, both_ok, closed_behind, fields_text, maybe, maybe_last, next, write_read}
use Rattle.lrs_record.proofs.Writes.{drop_of, only_drop}
use Rattle.lrs_record.proofs.store_writes.read_drop.Goals as goal

abbrev state_field : Option (List ℕ) → Fields
state_field = optional_field (codes "state") text_value

state_apart : (o : Option (List ℕ)) (rest : List ℕ) → IsClosed rest → IsMissing (name_text true (codes "registration")) (fields_text true (state_field o) ++ rest)
unfolding escaped
state_apart None rest is = (closed_behind (codes "registration") rest is).1
state_apart (Some state) rest is = λ more same. differ_at _ _ 2 refl same

drop_read : (old m1 m2 m3 new : List ℕ) (r : Result (List ℕ) Stop) (s : Result Ifi Stop) (t : Result (Option (List ℕ)) Stop) (u : Result (Option (List ℕ)) Stop)
    → ReadsField (codes "\"activity\":") iri_value old r m1 → OnOk r (ReadsField (codes ",\"agent\":") agent_value m1 s m2)
    → OnOk r (OnOk s (ReadsOptional (codes ",\"registration\":") id_value m2 t m3)) → OnOk r (OnOk s (OnOk t (ReadsOptional (codes ",\"state\":") text_value m3 u new)))
    → ReadsWrite (codes "drop") old (mapped drop_of (paired r (paired s (paired t u)))) new
unfolding escaped
drop_read old m1 m2 m3 new r s t u first second third fourth =
    write_read (codes "drop") drop_of old new (paired r (paired s (paired t u))) (λ p. refl) only_drop
    (next false (codes "activity") iri_value (λ p. (codes "agent", agent_value p.0) ∷ (optional_field (codes "registration") id_value p.1.0 ++ state_field p.1.1)) old m1 new r (paired s (paired t u)) first
    (both_ok r
    (λ x y. next true (codes "agent") agent_value (λ p. optional_field (codes "registration") id_value p.0 ++ state_field p.1) m1 m2 new s (paired t u) x y)
    second
    (both_ok r
    (λ x y. both_ok s
    (λ a b. maybe (codes "registration") id_value state_field m2 m3 new t u state_apart a (on_ok_weaker t (λ z. maybe_last (codes "state") text_value m3 new u z) b)) x y)
    third fourth)))

pub returns-in_err-activity : goal.returns-in_err-activity
returns-in_err-activity c = failed _ c.from_residual.ensures.1 (drop_read _ _ [] [] _ (Err _) (Err Memory) (Err Memory) (Err Memory) c.in_err-activity.ensures tt tt tt)

pub returns-in_err-agent : goal.returns-in_err-agent
returns-in_err-agent c = failed _ c.from_residual-in_err-agent.ensures.1 (drop_read _ _ _ [] _ (Ok _) (Err _) (Err Memory) (Err Memory) c.in_ok-activity.ensures c.in_err-agent.ensures tt tt)

pub returns-in_err-registration : goal.returns-in_err-registration
returns-in_err-registration c = failed _ c.from_residual-in_err-registration.ensures.1 (drop_read _ _ _ _ _ (Ok _) (Ok _) (Err _) (Err Memory) c.in_ok-activity.ensures c.in_ok-agent.ensures c.in_err-registration.ensures.read tt)

pub returns-in_err-state : goal.returns-in_err-state
returns-in_err-state c = failed _ c.from_residual-in_err-state.ensures.1 (drop_read _ _ _ _ _ (Ok _) (Ok _) (Ok _) (Err _) c.in_ok-activity.ensures c.in_ok-agent.ensures c.in_ok-registration.ensures.read c.in_err-state.ensures.read)

pub returns : goal.returns
returns c = drop_read _ _ _ _ _ (Ok _) (Ok _) (Ok _) (Ok _) c.in_ok-activity.ensures c.in_ok-agent.ensures c.in_ok-registration.ensures.read c.in_ok-state.ensures.read
