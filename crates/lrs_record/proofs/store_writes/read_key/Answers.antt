-- What a document stands under, and what is read of it.
use Rattle.std.proofs.Common.{ℕ, List, [], ◌++◌, Result, Ok, Err, OnOk, Option, Some, None, IfSome, codes, refl}
use Rattle.lrs_agents.specs.declared.identifiers.Ifi.{Ifi}
use Rattle.lrs_fields.specs.LrsDecimalNumbers.{Ends}
use Rattle.lrs_fields.specs.Reading.{IsKeptValue, MayFollowOptional, Reads, ReadsField, ReadsOptional, field_text, optional_text}
use Rattle.lrs_fields.specs.Values.{Value, text_value, id_value, iri_value, agent_value}
use Rattle.lrs_fields.proofs.Differing.{differ_at}
use Rattle.lrs_fields.proofs.Sequences.{both_stand, both_text, failed, made, mapped, paired, two}
use Rattle.lrs_json_reader.specs.declared.cursor.Stop.{Stop}
use Rattle.lrs_json_reader.specs.declared.cursor.Stop.TheVariants.{Memory}
use Rattle.lrs_record.specs.Reading.{IsKeptKey, key_text}
use Rattle.lrs_record.proofs.WriteReading.{both_ok}
use Rattle.xapi_keys.specs.declared.state_key.StateKey.{StateKey}
use Rattle.lrs_record.proofs.store_writes.read_key.Goals as goal

abbrev IsKeptOptional : {A : Type 0} → (A → Value) → Option A → Type 0
IsKeptOptional value o = IfSome o (IsKeptValue value)

abbrev activity_later : List ℕ → List ℕ
activity_later = field_text (codes ",\"activity\":") iri_value

abbrev agent_later : Ifi → List ℕ
agent_later = field_text (codes ",\"agent\":") agent_value

abbrev at_registration : List ℕ
at_registration = codes ",\"registration\":"

abbrev registration_later : Option (List ℕ) → List ℕ
registration_later = optional_text at_registration id_value

abbrev at_state : List ℕ
at_state = codes ",\"state\":"

abbrev state_later : List ℕ → List ℕ
state_later = field_text at_state text_value

abbrev Keyed : Type 0
Keyed = List ℕ × (Ifi × (Option (List ℕ) × List ℕ))

abbrev keyed_text : Keyed → List ℕ
keyed_text = both_text activity_later (both_text agent_later (both_text registration_later state_later))

abbrev IsKeyed : Keyed → Type 0
IsKeyed = both_stand (IsKeptValue iri_value) (both_stand (IsKeptValue agent_value) (both_stand (IsKeptOptional id_value) (IsKeptValue text_value)))

abbrev key_of : Keyed → StateKey
key_of p = record { activity = p.0; agent = p.1.0; registration = p.1.1.0; state = p.1.1.1 }

registration_ends : (o : Option (List ℕ)) (state rest : List ℕ) → Ends (registration_later o ++ state_later state ++ rest)
registration_ends None state rest = refl
registration_ends (Some id) state rest = refl

key_read : (old m1 m2 m3 new : List ℕ) (r : Result (List ℕ) Stop) (s : Result Ifi Stop) (t : Result (Option (List ℕ)) Stop) (u : Result (List ℕ) Stop)
    → ReadsField (codes ",\"activity\":") iri_value old r m1 → OnOk r (ReadsField (codes ",\"agent\":") agent_value m1 s m2) → OnOk r (OnOk s (ReadsOptional at_registration id_value m2 t m3))
    → OnOk r (OnOk s (OnOk t (ReadsField at_state text_value m3 u new))) → Reads key_text IsKeptKey Ends old (mapped key_of (paired r (paired s (paired t u)))) new
key_read old m1 m2 m3 new r s t u first second third fourth =
    made key_of keyed_text key_text IsKeyed IsKeptKey Ends Ends old new (paired r (paired s (paired t u)))
    (λ p is. ((is.0, is.1.0, is.1.1.0, is.1.1.1), refl)) (λ key rest is whole. ((key.activity, (key.agent, (key.registration, key.state))), (is.0, (is.1, (is.2, is.3))), refl)) (λ rest f. f)
    (two activity_later (both_text agent_later (both_text registration_later state_later)) (IsKeptValue iri_value) (both_stand (IsKeptValue agent_value) (both_stand (IsKeptOptional id_value) (IsKeptValue text_value))) Ends Ends
    old m1 new r (paired s (paired t u)) first
    (both_ok r
    (λ x y. two agent_later (both_text registration_later state_later) (IsKeptValue agent_value) (both_stand (IsKeptOptional id_value) (IsKeptValue text_value)) Ends Ends m1 m2 new s (paired t u) x y
    (λ b rest is f. registration_ends b.0 b.1 rest))
    second
    (both_ok r
    (λ x y. both_ok s
    (λ a b. two registration_later state_later (IsKeptOptional id_value) (IsKeptValue text_value) (MayFollowOptional at_registration) Ends m2 m3 new t u a b
    (λ b rest is f. (refl, λ more e. differ_at _ _ 2 refl e)))
    x y)
    third fourth))
    (λ b rest is f. refl))

-- ---- what is read

pub returns-in_err-activity : goal.returns-in_err-activity
returns-in_err-activity c = failed _ c.from_residual.ensures.1 (key_read _ _ [] [] _ (Err _) (Err Memory) (Err Memory) (Err Memory) c.in_err-activity.ensures tt tt tt)

pub returns-in_err-agent : goal.returns-in_err-agent
returns-in_err-agent c = failed _ c.from_residual-in_err-agent.ensures.1 (key_read _ _ _ [] _ (Ok _) (Err _) (Err Memory) (Err Memory) c.in_ok-activity.ensures c.in_err-agent.ensures tt tt)

pub returns-in_err-registration : goal.returns-in_err-registration
returns-in_err-registration c = failed _ c.from_residual-in_err-registration.ensures.1 (key_read _ _ _ _ _ (Ok _) (Ok _) (Err _) (Err Memory) c.in_ok-activity.ensures c.in_ok-agent.ensures c.in_err-registration.ensures.read tt)

pub returns-in_err-state : goal.returns-in_err-state
returns-in_err-state c = failed _ c.from_residual-in_err-state.ensures.1 (key_read _ _ _ _ _ (Ok _) (Ok _) (Ok _) (Err _) c.in_ok-activity.ensures c.in_ok-agent.ensures c.in_ok-registration.ensures.read c.in_err-state.ensures)

pub returns : goal.returns
returns c = key_read _ _ _ _ _ (Ok _) (Ok _) (Ok _) (Ok _) c.in_ok-activity.ensures c.in_ok-agent.ensures c.in_ok-registration.ensures.read c.in_ok-state.ensures
