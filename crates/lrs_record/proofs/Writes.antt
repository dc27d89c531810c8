-- The writes of each name, the names of their fields, and what their members tell. A write more is its `only_`, a line of
-- `well_named`, and one of `told_write`.
use Rattle.std.proofs.Common.{◌≡◌, ◌&&◌, ℕ, List, [], ◌∷◌, ◌++◌, true, codes, Option, Some, None, refl, sym, ap, ◌∙◌, subst}
use Rattle.cmi5_course.specs.declared.launch.Mode.{Mode}
use Rattle.cmi5_course.specs.declared.reason.Reason.{Reason}
use Rattle.lrs_agents.specs.declared.agents.Agent.{Agent}
use Rattle.lrs_agents.specs.declared.identifiers.Ifi.{Ifi}
use Rattle.lrs_fields.specs.Values.{actor_value, agent_value, bytes_value, id_value, iri_value, number_value, text_value, tree_value, trees_value}
use Rattle.lrs_fields.specs.Values.{members_for, optional_field}
use Rattle.lrs_fields.proofs.Apart.{are_apart}
use Rattle.lrs_json.specs.Json.{string}
use Rattle.lrs_json.proofs.SmallBytes.{are_small}
use Rattle.lrs_json.specs.declared.tree.Tree.{Tree}
use Rattle.lrs_record.specs.Entries.{IsLawfulWrite}
use Rattle.lrs_record.specs.Reading.{IsKeptWrite}
use Rattle.lrs_record.specs.Writes.{write_fields, write_name}
use Rattle.lrs_record.specs.declared.entry.How.{How}
use Rattle.lrs_record.specs.declared.entry.Write.{Write}
use Rattle.lrs_record.specs.declared.entry.Write.TheVariants.{Found, Provider, Put, Post, State, Drop}
use Rattle.lrs_record.specs.declared.entry.Write.TheVariants.{Course, Enrol, Launch, Fetch, Waive, Abandon, Sweep}
use Rattle.lrs_record.proofs.Telling.{AreTold, DoNotBegin, names_apart, told_last, told_maybe, told_maybe_last, told_next}
use Rattle.lrs_record.proofs.Telling.{actor_told, agent_told, bytes_told, how_told, id_told, iri_told, mode_told, number_told, reason_told, text_told, tree_told, trees_told}
use Rattle.lrs_record.proofs.WordReading.{how_value, mode_value, reason_value}
use Rattle.lrs_record.proofs.WriteReading.{Fields, Only, other}
use Rattle.xapi_keys.specs.declared.state_key.StateKey.{StateKey}

-- ---- what a write of each name is made of

abbrev pub found_of : List ℕ × List ℕ → Write
found_of p = Found p.0 p.1

pub only_found : (w : Write) → write_name w ≡ codes "found" → (p : List ℕ × List ℕ) × (found_of p ≡ w)
only_found (Found admin base) named = ((admin, base), refl)
only_found w named = absurd (other _ _ refl named)

pub only_provider : (w : Write) → write_name w ≡ codes "provider" → (name : List ℕ) × (Provider name ≡ w)
only_provider (Provider name) named = (name, refl)
only_provider w named = absurd (other _ _ refl named)

abbrev pub put_of : List ℕ × Tree → Write
put_of p = Put p.0 p.1

pub only_put : (w : Write) → write_name w ≡ codes "put" → (p : List ℕ × Tree) × (put_of p ≡ w)
only_put (Put id statement) named = ((id, statement), refl)
only_put w named = absurd (other _ _ refl named)

pub only_post : (w : Write) → write_name w ≡ codes "post" → (statements : List Tree) × (Post statements ≡ w)
only_post (Post statements) named = (statements, refl)
only_post w named = absurd (other _ _ refl named)

abbrev pub Documented : Type 0
Documented = How × (StateKey × (List ℕ × List ℕ))

abbrev pub state_of : Documented → Write
state_of p = State p.0 p.1.0 p.1.1.0 p.1.1.1

pub only_state : (w : Write) → write_name w ≡ codes "state" → (p : Documented) × (state_of p ≡ w)
only_state (State h key media bytes) named = ((h, (key, (media, bytes))), refl)
only_state w named = absurd (other _ _ refl named)

abbrev pub Dropped : Type 0
Dropped = List ℕ × (Ifi × (Option (List ℕ) × Option (List ℕ)))

abbrev pub drop_of : Dropped → Write
drop_of p = Drop p.0 p.1.0 p.1.1.0 p.1.1.1

pub only_drop : (w : Write) → write_name w ≡ codes "drop" → (p : Dropped) × (drop_of p ≡ w)
only_drop (Drop activity agent registration state) named = ((activity, (agent, (registration, state))), refl)
only_drop w named = absurd (other _ _ refl named)

pub only_course : (w : Write) → write_name w ≡ codes "course" → (tree : Tree) × (Course tree ≡ w)
only_course (Course tree) named = (tree, refl)
only_course w named = absurd (other _ _ refl named)

abbrev pub Enrolled : Type 0
Enrolled = List ℕ × (Agent × Option ℕ)

abbrev pub enrol_of : Enrolled → Write
enrol_of p = Enrol p.0 p.1.0 p.1.1

pub only_enrol : (w : Write) → write_name w ≡ codes "enrol" → (p : Enrolled) × (enrol_of p ≡ w)
only_enrol (Enrol course actor edition) named = ((course, (actor, edition)), refl)
only_enrol w named = absurd (other _ _ refl named)

abbrev pub Launched : Type 0
Launched = List ℕ × (List ℕ × (Mode × Option (List ℕ)))

abbrev pub launch_of : Launched → Write
launch_of p = Launch p.0 p.1.0 p.1.1.0 p.1.1.1

pub only_launch : (w : Write) → write_name w ≡ codes "launch" → (p : Launched) × (launch_of p ≡ w)
only_launch (Launch registration unit mode return_url) named = ((registration, (unit, (mode, return_url))), refl)
only_launch w named = absurd (other _ _ refl named)

pub only_fetch : (w : Write) → write_name w ≡ codes "fetch" → (key : List ℕ) × (Fetch key ≡ w)
only_fetch (Fetch key) named = (key, refl)
only_fetch w named = absurd (other _ _ refl named)

abbrev pub waive_of : List ℕ × (List ℕ × Reason) → Write
waive_of p = Waive p.0 p.1.0 p.1.1

pub only_waive : (w : Write) → write_name w ≡ codes "waive" → (p : List ℕ × (List ℕ × Reason)) × (waive_of p ≡ w)
only_waive (Waive registration unit reason) named = ((registration, (unit, reason)), refl)
only_waive w named = absurd (other _ _ refl named)

pub only_abandon : (w : Write) → write_name w ≡ codes "abandon" → (session : List ℕ) × (Abandon session ≡ w)
only_abandon (Abandon session) named = (session, refl)
only_abandon w named = absurd (other _ _ refl named)

pub only_sweep : (w : Write) → write_name w ≡ codes "sweep" → (idle : ℕ) × (Sweep idle ≡ w)
only_sweep (Sweep idle) named = (idle, refl)
only_sweep w named = absurd (other _ _ refl named)

-- ---- no tree stands in them

pub lawful_state : (h : How) (activity : List ℕ) (agent : Ifi) (registration : Option (List ℕ)) (state media bytes : List ℕ)
    → IsLawfulWrite (State h (record { activity = activity; agent = agent; registration = registration; state = state }) media bytes)
lawful_state h activity agent None state media bytes = (tt, (tt, (tt, (tt, (tt, (tt, tt))))))
lawful_state h activity agent (Some id) state media bytes = (tt, (tt, (tt, (tt, (tt, (tt, (tt, tt)))))))

pub lawful_drop : (activity : List ℕ) (agent : Ifi) (registration state : Option (List ℕ)) → IsLawfulWrite (Drop activity agent registration state)
lawful_drop activity agent None None = (tt, (tt, tt))
lawful_drop activity agent None (Some state) = (tt, (tt, (tt, tt)))
lawful_drop activity agent (Some id) None = (tt, (tt, (tt, tt)))
lawful_drop activity agent (Some id) (Some state) = (tt, (tt, (tt, (tt, tt))))

-- ---- the names of the fields are apart

apart_state : (h : How) (activity : List ℕ) (agent : Ifi) (registration : Option (List ℕ)) (state media bytes : List ℕ)
    → are_apart [] (write_fields (State h (record { activity = activity; agent = agent; registration = registration; state = state }) media bytes)) ≡ true
apart_state h activity agent None state media bytes = refl
apart_state h activity agent (Some id) state media bytes = refl

apart_drop : (activity : List ℕ) (agent : Ifi) (registration state : Option (List ℕ)) → are_apart [] (write_fields (Drop activity agent registration state)) ≡ true
apart_drop activity agent None None = refl
apart_drop activity agent None (Some state) = refl
apart_drop activity agent (Some id) None = refl
apart_drop activity agent (Some id) (Some state) = refl

apart_enrol : (course : List ℕ) (actor : Agent) (edition : Option ℕ) → are_apart [] (write_fields (Enrol course actor edition)) ≡ true
apart_enrol course actor None = refl
apart_enrol course actor (Some number) = refl

apart_launch : (registration unit : List ℕ) (mode : Mode) (return_url : Option (List ℕ)) → are_apart [] (write_fields (Launch registration unit mode return_url)) ≡ true
apart_launch registration unit mode None = refl
apart_launch registration unit mode (Some address) = refl

pub well_named : (w : Write) → (are_small (write_name w) && are_apart [] (write_fields w)) ≡ true
well_named (Found admin base) = refl
well_named (Provider name) = refl
well_named (Put id statement) = refl
well_named (Post statements) = refl
well_named (State h key media bytes) = apart_state h key.activity key.agent key.registration key.state media bytes
well_named (Drop activity agent registration state) = apart_drop activity agent registration state
well_named (Course tree) = refl
well_named (Enrol course actor edition) = apart_enrol course actor edition
well_named (Launch registration unit mode return_url) = apart_launch registration unit mode return_url
well_named (Fetch key) = refl
well_named (Waive registration unit reason) = refl
well_named (Abandon session) = refl
well_named (Sweep idle) = refl

-- ---- what the members of a write of each name tell

-- a document that is written, in parts: with its key's
abbrev Content : Type 0
Content = List ℕ × (List ℕ × List ℕ)

abbrev OwnedParts : Type 0
OwnedParts = List ℕ × (Ifi × (Option (List ℕ) × Content))

abbrev StateParts : Type 0
StateParts = How × OwnedParts

abbrev state_from : StateParts → Write
state_from p = State p.0 (record { activity = p.1.0; agent = p.1.1.0; registration = p.1.1.1.0; state = p.1.1.1.1.0 }) p.1.1.1.1.1.0 p.1.1.1.1.1.1

only_parts : (w : Write) → write_name w ≡ codes "state" → (p : StateParts) × (state_from p ≡ w)
only_parts (State h key media bytes) named = ((h, (key.activity, (key.agent, (key.registration, (key.state, (media, bytes)))))), refl)
only_parts w named = absurd (other _ _ refl named)

abbrev content_fields : Content → Fields
content_fields p = (codes "state", text_value p.0) ∷ (codes "type", text_value p.1.0) ∷ (codes "bytes", bytes_value p.1.1) ∷ []

content_apart : DoNotBegin (codes "registration") content_fields
content_apart p json members same = names_apart (codes "state", string p.0) (codes "registration", json) _ _ refl same

told_content : AreTold content_fields
told_content =
    told_next (codes "state") text_value (λ (p : List ℕ × List ℕ). (codes "type", text_value p.0) ∷ (codes "bytes", bytes_value p.1) ∷ []) text_told
    (told_next (codes "type") text_value (λ bytes. (codes "bytes", bytes_value bytes) ∷ []) text_told (told_last (codes "bytes") bytes_value bytes_told))

told_state : AreTold (λ p. write_fields (state_from p))
told_state =
    told_next (codes "how") how_value
    (λ (p : OwnedParts). (codes "activity", iri_value p.0) ∷ (codes "agent", agent_value p.1.0) ∷ (optional_field (codes "registration") id_value p.1.1.0 ++ content_fields p.1.1.1)) how_told
    (told_next (codes "activity") iri_value (λ (p : Ifi × (Option (List ℕ) × Content)). (codes "agent", agent_value p.0) ∷ (optional_field (codes "registration") id_value p.1.0 ++ content_fields p.1.1)) iri_told
    (told_next (codes "agent") agent_value (λ (p : Option (List ℕ) × Content). optional_field (codes "registration") id_value p.0 ++ content_fields p.1) agent_told
    (told_maybe (codes "registration") id_value content_fields content_apart id_told told_content)))

chosen_apart : DoNotBegin (codes "registration") (optional_field (codes "state") text_value)
chosen_apart None json members same = absurd (cc same)
chosen_apart (Some state) json members same = names_apart (codes "state", string state) (codes "registration", json) _ _ refl same

told_drop : AreTold (λ p. write_fields (drop_of p))
told_drop =
    told_next (codes "activity") iri_value (λ (p : Ifi × (Option (List ℕ) × Option (List ℕ))). (codes "agent", agent_value p.0) ∷ (optional_field (codes "registration") id_value p.1.0 ++ optional_field (codes "state") text_value p.1.1)) iri_told
    (told_next (codes "agent") agent_value (λ (p : Option (List ℕ) × Option (List ℕ)). optional_field (codes "registration") id_value p.0 ++ optional_field (codes "state") text_value p.1) agent_told
    (told_maybe (codes "registration") id_value (optional_field (codes "state") text_value) chosen_apart id_told (told_maybe_last (codes "state") text_value text_told)))

told_launch : AreTold (λ p. write_fields (launch_of p))
told_launch =
    told_next (codes "registration") id_value (λ (p : List ℕ × (Mode × Option (List ℕ))). (codes "unit", iri_value p.0) ∷ (codes "mode", mode_value p.1.0) ∷ optional_field (codes "returnURL") iri_value p.1.1) id_told
    (told_next (codes "unit") iri_value (λ (p : Mode × Option (List ℕ)). (codes "mode", mode_value p.0) ∷ optional_field (codes "returnURL") iri_value p.1) iri_told
    (told_next (codes "mode") mode_value (optional_field (codes "returnURL") iri_value) mode_told (told_maybe_last (codes "returnURL") iri_value iri_told)))

told_waive : AreTold (λ p. write_fields (waive_of p))
told_waive =
    told_next (codes "registration") id_value (λ (p : List ℕ × Reason). (codes "unit", iri_value p.0) ∷ (codes "reason", reason_value p.1) ∷ []) id_told
    (told_next (codes "unit") iri_value (λ reason. (codes "reason", reason_value reason) ∷ []) iri_told (told_last (codes "reason") reason_value reason_told))

told_found : AreTold (λ p. write_fields (found_of p))
told_found = told_next (codes "admin") text_value (λ base. (codes "base", text_value base) ∷ []) text_told (told_last (codes "base") text_value text_told)

told_put : AreTold (λ p. write_fields (put_of p))
told_put = told_next (codes "id") id_value (λ statement. (codes "statement", tree_value statement) ∷ []) id_told (told_last (codes "statement") tree_value tree_told)

told_enrol : AreTold (λ p. write_fields (enrol_of p))
told_enrol =
    told_next (codes "course") iri_value (λ (p : Agent × Option ℕ). (codes "actor", actor_value p.0) ∷ optional_field (codes "edition") number_value p.1) iri_told
    (told_next (codes "actor") actor_value (optional_field (codes "edition") number_value) actor_told (told_maybe_last (codes "edition") number_value number_told))

-- ---- a name and its members tell the write

-- what the fields of the writes of one name tell
told : {A : Type 0} (name : List ℕ) (of : A → Write) → Only name of → AreTold (λ a. write_fields (of a)) → (a : A) (w : Write) → name ≡ write_name w → IsKeptWrite (of a) → IsKeptWrite w
    → members_for (write_fields (of a)) ≡ members_for (write_fields w) → of a ≡ w
told name of only fields a w named x y same =
    let own = only w (sym named) in
    ap of (fields a own.0 x (subst IsKeptWrite (sym own.1) y) (same ∙ ap (λ v. members_for (write_fields v)) (sym own.1))) ∙ own.1

pub told_write : (a b : Write) → write_name a ≡ write_name b → IsKeptWrite a → IsKeptWrite b → members_for (write_fields a) ≡ members_for (write_fields b) → a ≡ b
told_write (Found admin base) = told (codes "found") found_of only_found told_found (admin, base)
told_write (Provider name) = told (codes "provider") Provider only_provider (told_last (codes "name") text_value text_told) name
told_write (Put id statement) = told (codes "put") put_of only_put told_put (id, statement)
told_write (Post statements) = told (codes "post") Post only_post (told_last (codes "statements") trees_value trees_told) statements
told_write (State h key media bytes) = told (codes "state") state_from only_parts told_state (h, (key.activity, (key.agent, (key.registration, (key.state, (media, bytes))))))
told_write (Drop activity agent registration state) = told (codes "drop") drop_of only_drop told_drop (activity, (agent, (registration, state)))
told_write (Course tree) = told (codes "course") Course only_course (told_last (codes "tree") tree_value tree_told) tree
told_write (Enrol course actor edition) = told (codes "enrol") enrol_of only_enrol told_enrol (course, (actor, edition))
told_write (Launch registration unit mode return_url) = told (codes "launch") launch_of only_launch told_launch (registration, (unit, (mode, return_url)))
told_write (Fetch key) = told (codes "fetch") Fetch only_fetch (told_last (codes "key") text_value text_told) key
told_write (Waive registration unit reason) = told (codes "waive") waive_of only_waive told_waive (registration, (unit, reason))
told_write (Abandon session) = told (codes "abandon") Abandon only_abandon (told_last (codes "session") id_value id_told) session
told_write (Sweep idle) = told (codes "sweep") Sweep only_sweep (told_last (codes "idle") number_value number_told) idle
