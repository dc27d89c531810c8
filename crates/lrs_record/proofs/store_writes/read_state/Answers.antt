-- The fields of `state`, and what is read of them.
use Rattle.std.proofs.Common.{◌≡◌, ℕ, List, [], ◌∷◌, ◌++◌, Result, Ok, Err, OnOk, Option, Some, None, codes, true, false, append_assoc, refl}
use Rattle.std.proofs.lemmas.Result.{on_ok_weaker}
use Rattle.lrs_agents.specs.declared.identifiers.Ifi.{Ifi}
use Rattle.lrs_fields.specs.LrsDecimalNumbers.{Ends}
use Rattle.lrs_fields.specs.Reading.{Reads, ReadsField, field_text}
use Rattle.lrs_fields.specs.Values.{text_value, id_value, iri_value, agent_value, bytes_value, optional_field}
use Rattle.lrs_fields.proofs.Sequences.{both_stand, both_text, failed, mapped, paired, two}
use Rattle.lrs_json.specs.Written.{escaped}
use Rattle.lrs_json_reader.specs.declared.cursor.Stop.{Stop}
use Rattle.lrs_json_reader.specs.declared.cursor.Stop.TheVariants.{Memory}
use Rattle.lrs_record.specs.Reading.{IsClosed, IsKeptKey, ReadsWrite, key_text}
use Rattle.lrs_record.specs.declared.entry.How.{How}
use Rattle.lrs_record.proofs.WordReading.{how_value}
use Rattle.lrs_record.proofs.WriteReading.{AreKept, Fields, ReadsFields, both_ok, fields_text, last, next, seen, write_read}
use Rattle.lrs_record.proofs.Writes.{only_state, state_of}
use Rattle.xapi_keys.specs.declared.state_key.StateKey.{StateKey}
use Rattle.lrs_record.proofs.store_writes.read_state.Goals as goal

-- ---- the key, and what stands behind it

abbrev content_fields : List ℕ × List ℕ → Fields
content_fields p = (codes "type", text_value p.0) ∷ (codes "bytes", bytes_value p.1) ∷ []

abbrev keyed_fields : List ℕ → Ifi → Option (List ℕ) → List ℕ → List ℕ × List ℕ → Fields
keyed_fields activity agent o state p =
    (codes "activity", iri_value activity) ∷ (codes "agent", agent_value agent)
    ∷ (optional_field (codes "registration") id_value o ++ (codes "state", text_value state) ∷ content_fields p)

abbrev fields_behind : StateKey × (List ℕ × List ℕ) → Fields
fields_behind p = keyed_fields p.0.activity p.0.agent p.0.registration p.0.state p.1

without : (a g s c : List ℕ) → a ++ (g ++ (s ++ c)) ≡ (a ++ (g ++ s)) ++ c
without a g s c = simp append_assoc refl

within : (a g r s c : List ℕ) → a ++ (g ++ (r ++ (s ++ c))) ≡ (a ++ (g ++ (r ++ s))) ++ c
within a g r s c = simp append_assoc refl

keyed_parts : (activity : List ℕ) (agent : Ifi) (o : Option (List ℕ)) (state : List ℕ) (p : List ℕ × List ℕ)
    → fields_text true (keyed_fields activity agent o state p) ≡ key_text (record { activity = activity; agent = agent; registration = o; state = state }) ++ fields_text true (content_fields p)
unfolding escaped
keyed_parts activity agent None state p =
    without (field_text (codes ",\"activity\":") iri_value activity) (field_text (codes ",\"agent\":") agent_value agent) (field_text (codes ",\"state\":") text_value state) (fields_text true (content_fields p))
keyed_parts activity agent (Some id) state p =
    within (field_text (codes ",\"activity\":") iri_value activity) (field_text (codes ",\"agent\":") agent_value agent) (field_text (codes ",\"registration\":") id_value id) (field_text (codes ",\"state\":") text_value state)
    (fields_text true (content_fields p))

keyed_kept : (activity : List ℕ) (agent : Ifi) (o : Option (List ℕ)) (state : List ℕ) (p : List ℕ × List ℕ) → IsKeptKey (record { activity = activity; agent = agent; registration = o; state = state }) × AreKept (content_fields p)
    → AreKept (keyed_fields activity agent o state p)
keyed_kept activity agent None state p is = ((tt, (tt, (tt, is.1.0))), (is.0.0.0, (is.0.1.0, (is.0.3.0, is.1.1))))
keyed_kept activity agent (Some id) state p is = ((tt, (tt, (tt, (tt, is.1.0)))), (is.0.0.0, (is.0.1.0, (is.0.2.0, (is.0.3.0, is.1.1)))))

kept_keyed : (activity : List ℕ) (agent : Ifi) (o : Option (List ℕ)) (state : List ℕ) (p : List ℕ × List ℕ) → AreKept (keyed_fields activity agent o state p)
    → IsKeptKey (record { activity = activity; agent = agent; registration = o; state = state }) × AreKept (content_fields p)
kept_keyed activity agent None state p is = (((is.1.0, tt), (is.1.1.0, tt), tt, (is.1.1.1.0, tt)), (is.0.1.1.1, is.1.1.1.1))
kept_keyed activity agent (Some id) state p is = (((is.1.0, tt), (is.1.1.0, tt), (is.1.1.1.0, tt), (is.1.1.1.1.0, tt)), (is.0.1.1.1.1, is.1.1.1.1.1))

behind_read : (old mid new : List ℕ) (r : Result StateKey Stop) (s : Result (List ℕ × List ℕ) Stop) → Reads key_text IsKeptKey Ends old r mid → OnOk r (ReadsFields true content_fields mid s new)
    → ReadsFields true fields_behind old (paired r s) new
behind_read old mid new r s first second =
    seen (both_text key_text (λ c. fields_text true (content_fields c))) (λ p. fields_text true (fields_behind p)) (both_stand IsKeptKey (λ c. AreKept (content_fields c))) (λ p. AreKept (fields_behind p)) IsClosed IsClosed
    old new (paired r s)
    (λ p is. keyed_kept p.0.activity p.0.agent p.0.registration p.0.state p.1 is)
    (λ p is. kept_keyed p.0.activity p.0.agent p.0.registration p.0.state p.1 is)
    (λ p. keyed_parts p.0.activity p.0.agent p.0.registration p.0.state p.1) (λ rest f. f)
    (two key_text (λ c. fields_text true (content_fields c)) IsKeptKey (λ c. AreKept (content_fields c)) Ends IsClosed old mid new r s first second (λ c rest is f. refl))

-- ---- what is read

state_read : (old m1 m2 m3 new : List ℕ) (r : Result How Stop) (s : Result StateKey Stop) (t : Result (List ℕ) Stop) (u : Result (List ℕ) Stop)
    → ReadsField (codes "\"how\":") how_value old r m1 → OnOk r (Reads key_text IsKeptKey Ends m1 s m2) → OnOk r (OnOk s (ReadsField (codes ",\"type\":") text_value m2 t m3))
    → OnOk r (OnOk s (OnOk t (ReadsField (codes ",\"bytes\":") bytes_value m3 u new))) → ReadsWrite (codes "state") old (mapped state_of (paired r (paired s (paired t u)))) new
unfolding escaped
state_read old m1 m2 m3 new r s t u first second third fourth =
    write_read (codes "state") state_of old new (paired r (paired s (paired t u))) (λ p. refl) only_state
    (next false (codes "how") how_value fields_behind old m1 new r (paired s (paired t u)) first
    (both_ok r (λ x y. behind_read m1 m2 new s (paired t u) x y) second
    (both_ok r
    (λ x y. both_ok s
    (λ a b. next true (codes "type") text_value (λ bytes. (codes "bytes", bytes_value bytes) ∷ []) m2 m3 new t u a (on_ok_weaker t (λ z. last true (codes "bytes") bytes_value m3 new u z) b)) x y)
    third fourth)))

pub returns-in_err-how : goal.returns-in_err-how
returns-in_err-how c = failed _ c.from_residual.ensures.1 (state_read _ _ [] [] _ (Err _) (Err Memory) (Err Memory) (Err Memory) c.in_err-how.ensures tt tt tt)

pub returns-in_err-key : goal.returns-in_err-key
returns-in_err-key c = failed _ c.from_residual-in_err-key.ensures.1 (state_read _ _ _ [] _ (Ok _) (Err _) (Err Memory) (Err Memory) c.in_ok-how.ensures c.in_err-key.ensures tt tt)

pub returns-in_err-media : goal.returns-in_err-media
returns-in_err-media c = failed _ c.from_residual-in_err-media.ensures.1 (state_read _ _ _ _ _ (Ok _) (Ok _) (Err _) (Err Memory) c.in_ok-how.ensures c.in_ok-key.ensures c.in_err-media.ensures tt)

pub returns-in_err-bytes : goal.returns-in_err-bytes
returns-in_err-bytes c = failed _ c.from_residual-in_err-bytes.ensures.1 (state_read _ _ _ _ _ (Ok _) (Ok _) (Ok _) (Err _) c.in_ok-how.ensures c.in_ok-key.ensures c.in_ok-media.ensures c.in_err-bytes.ensures)

pub returns : goal.returns
returns c = state_read _ _ _ _ _ (Ok _) (Ok _) (Ok _) (Ok _) c.in_ok-how.ensures c.in_ok-key.ensures c.in_ok-media.ensures c.in_ok-bytes.ensures
