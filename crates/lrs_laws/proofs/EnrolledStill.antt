-- A registration keeps its edition, and the ids that are used stay so.
use Rattle.std.proofs.Common.{◌≡◌, ◌⊎◌, inl, inr, ℕ, suc, ◌+◌, ◌≤◌, List, [], ◌∷◌, ◌++◌, length, Bool, true, false, cond, Option, Some, None, is_some, refl, sym, ap, subst, ◌∙◌, arith, length-append}
use Rattle.std.specs.Prelude.{option_and_then, option_map, slice_get, if◌then◌else◌}
use Rattle.std.specs.List.{AllByRecursion}
use Rattle.std.specs.Option.{option_or}
use Rattle.std.specs.Str.{bytes_eq}
use Rattle.std.specs.Cmp.Lexicographic.{same_text}
use Rattle.std.proofs.lemmas.List.{length-map}
use Rattle.std.proofs.lemmas.List.Folds.{find-append}
use Rattle.cmi5_course.specs.Courses.{Course, index_of_unit, unit_at}
use Rattle.cmi5_course.specs.Launches.{session_of}
use Rattle.cmi5_course.specs.Units.{AssignableUnit}
use Rattle.lrs_agents.specs.declared.agents.Agent.{Agent}
use Rattle.lrs_history.specs.DeskEffects.{enrolling, enrolling_as}
use Rattle.lrs_history.specs.Effects.{effect_of}
use Rattle.lrs_history.specs.Enrolments.{Enrolled, enrolled, enrolled_as, enrolled_from}
use Rattle.lrs_history.specs.Launches.{Target, target, target_at, target_in, target_of, target_under}
use Rattle.lrs_history.specs.Occasions.{Occasion, given_in}
use Rattle.lrs_laws.proofs.CourseLaws.{MovesCourses, edition_still, meant_there}
use Rattle.lrs_laws.proofs.DeskKinds.{of_ending, of_fetch, of_launch, of_waiver}
use Rattle.lrs_laws.proofs.Lists.{each_found, each_push, each_weaker, found_passes}
use Rattle.lrs_register.specs.Changes.{with_change, with_replaced}
use Rattle.lrs_register.specs.Register.{with_first, with_new}
use Rattle.lrs_register.specs.declared.change.Change.{Change}
use Rattle.lrs_state.specs.Counted.{has_key_of}
use Rattle.lrs_state.specs.Courses.{index_meant}
use Rattle.lrs_state.specs.Editions.{SeenEdition, editions_after}
use Rattle.lrs_state.specs.Founding.{founding_after}
use Rattle.lrs_state.specs.Launches.{index_of_session, key_under, launches_after, session_ids}
use Rattle.lrs_state.specs.Registrations.{registration_ids, registration_key, registration_under, registrations_after, unchanged_registrations}
use Rattle.lrs_state.specs.Sessions.{made_session_id, made_session_ids, made_sessions_after}
use Rattle.lrs_state.specs.State.{State, apply, used_in}
use Rattle.lrs_state.specs.declared.effect.Effect.{Effect}
use Rattle.lrs_state.specs.declared.founding.Founding.{Founding}
use Rattle.lrs_state.specs.declared.registrations.HeldRegistration.{HeldRegistration}
use Rattle.lrs_record.specs.declared.entry.Write.{Write}
use Rattle.lrs_record.specs.declared.entry.Write.TheVariants.{Enrol, Fetch, Waive, Abandon}
use Rattle.lrs_record.specs.declared.entry.Write.TheVariants as write
use Rattle.xapi_index.proofs.Adding.{extends}
use Rattle.xapi_statement.specs.Statements.{add_each, ids_of}
use Rattle.xapi_statement.specs.Stored.{StoredStatement}

-- ---- what an entry does to registrations

abbrev pub registration_at : Occasion → ℕ → Agent → HeldRegistration
registration_at at edition actor = record { id = at.supply 0; edition = edition; actor = actor }

-- one comes, in an edition that is held
pub record Registers (st : State) (at : Occasion) (w : Write) (x : Effect) : Type 0 where
  pub number : ℕ
  pub actor : Agent
  pub edition : SeenEdition
  pub held : slice_get st.editions number ≡ Some edition
  pub brings_none : given_in w ≡ []
  pub is : x ≡ enrolling_as st at (registration_at at number actor)

abbrev pub Enrols : State → Occasion → Write → Effect → Type 0
Enrols st at w x = (x.registrations ≡ unchanged_registrations) ⊎ Registers st at w x

pub enrols : (st : State) (at : Occasion) (w : Write) → Enrols st at w (effect_of st at w)
enrols st at (Enrol course actor edition) = by_index (index_meant course edition st.courses st.editions) refl
  where
    by_index : (o : Option ℕ) → index_meant course edition st.courses st.editions ≡ o → Enrols st at (Enrol course actor edition) (enrolling st at actor o)
    by_index None found = inl refl
    by_index (Some number) found =
        let held = meant_there st course edition number found in
        inr (record { number = number; actor = actor; edition = held.0; held = held.1; brings_none = refl; is = refl })
enrols st at (write.Launch registration unit mode return_url) = of_launch (Enrols st at (write.Launch registration unit mode return_url)) st at (inl refl) mode return_url (target st registration unit) (λ t. inl refl)
enrols st at (Fetch name) = of_fetch (Enrols st at (Fetch name)) st at (inl refl) (key_under name st.keys) (λ told. inl refl) (λ key is unused still. inl refl)
enrols st at (Waive registration unit reason) = of_waiver (Enrols st at (Waive registration unit reason)) st at (inl refl) reason (target st registration unit) (λ t is. inl refl)
enrols st at (Abandon session) = of_ending (Enrols st at (Abandon session)) st at (inl refl) (index_of_session session st.launches) (λ numbers. inl refl)
enrols st at other = inl refl

-- ---- a registration with its edition

abbrev enrolled_with : Founding → HeldRegistration → SeenEdition → Enrolled
enrolled_with founding r edition = record { base = founding.base; registration = r; edition = edition }

-- it is the same behind the next entry
pub enrolled_still : (st : State) (w : Write) (x : Effect) → MovesCourses st w x → (r : HeldRegistration) (e : Enrolled) → enrolled_as st r ≡ Some e → enrolled_as (apply st x) r ≡ Some e
enrolled_still st w x moves r e is = by_founding st.founding refl is
  where
    by_edition : (founding : Founding) (o : Option SeenEdition) → slice_get st.editions r.edition ≡ o → option_map (enrolled_with founding r) o ≡ Some e → option_map (enrolled_with founding r) (slice_get (editions_after st.editions x.editions) r.edition) ≡ Some e
    by_edition founding None held at = cc at
    by_edition founding (Some edition) held at = ap (λ o. option_map (enrolled_with founding r) o) (edition_still st w x moves r.edition edition held) ∙ at

    by_founding : (o : Option Founding) → st.founding ≡ o → option_and_then (enrolled_from st r) o ≡ Some e → enrolled_as (apply st x) r ≡ Some e
    by_founding None founded at = cc at
    by_founding (Some founding) founded at =
        ap (λ o. option_and_then (enrolled_from (apply st x) r) (founding_after o x.founding)) founded ∙ by_edition founding (slice_get st.editions r.edition) refl at

abbrev pub HasEdition : State → HeldRegistration → Type 0
HasEdition st r = is_some (enrolled_as st r) ≡ true

some_item : {A : Type 0} (o : Option A) → is_some o ≡ true → (a : A) × (o ≡ Some a)
some_item None is = cc is
some_item (Some a) is = (a, refl)

pub has_edition_still : (st : State) (w : Write) (x : Effect) → MovesCourses st w x → (r : HeldRegistration) → HasEdition st r → HasEdition (apply st x) r
has_edition_still st w x moves r is =
    let known = some_item (enrolled_as st r) is in
    ap (λ o. is_some o) (enrolled_still st w x moves r known.0 known.1)

-- and was the same before
pub enrolled_before : (st : State) (w : Write) (x : Effect) → MovesCourses st w x → (r : HeldRegistration) (e : Enrolled) → HasEdition st r → enrolled_as (apply st x) r ≡ Some e → enrolled_as st r ≡ Some e
enrolled_before st w x moves r e is now =
    let known = some_item (enrolled_as st r) is in
    known.1 ∙ (sym (enrolled_still st w x moves r known.0 known.1) ∙ now)

-- the edition that is held is there with a founding
pub registered_edition : (st : State) (founding : Founding) (r : HeldRegistration) (edition : SeenEdition) → st.founding ≡ Some founding → slice_get st.editions r.edition ≡ Some edition → HasEdition st r
registered_edition st founding r edition founded held =
    ap (λ o. is_some (option_and_then (enrolled_from st r) o)) founded ∙ ap (λ o. is_some (option_map (enrolled_with founding r) o)) held

-- ---- all of them

abbrev pub HaveEditions : State → Type 0
HaveEditions st = AllByRecursion (HasEdition st) st.registrations

abbrev pub comes_last : State → HeldRegistration → List HeldRegistration
comes_last st r = st.registrations ++ r ∷ []

pub have_editions_after : (st : State) (at : Occasion) (w : Write) (x : Effect) (founding : Founding) → st.founding ≡ Some founding → MovesCourses st w x → Enrols st at w x → HaveEditions st → HaveEditions (apply st x)
have_editions_after st at w x founding founded moves (inl same) each =
    subst (λ rs. AllByRecursion (HasEdition (apply st x)) rs) (sym (ap (λ c. registrations_after st.registrations c) same))
    (each_weaker (HasEdition st) (HasEdition (apply st x)) (λ r is. has_edition_still st w x moves r is) st.registrations each)
have_editions_after st at w x founding founded moves (inr registers) each =
    let r : HeldRegistration = registration_at at registers.number registers.actor in
    subst (λ rs. AllByRecursion (HasEdition (apply st x)) rs) (sym (ap (λ (y : Effect). registrations_after st.registrations y.registrations) registers.is))
    (each_push (HasEdition (apply st x)) st.registrations r (each_weaker (HasEdition st) (HasEdition (apply st x)) (λ q is. has_edition_still st w x moves q is) st.registrations each)
    (has_edition_still st w x moves r (registered_edition st founding r registers.edition founded registers.held)))

-- ---- the registration of an id

-- of an entry that makes none
pub known_before : (st : State) (w : Write) (x : Effect) (id : List ℕ) (e : Enrolled) → MovesCourses st w x → HaveEditions st → x.registrations ≡ unchanged_registrations → enrolled (apply st x) id ≡ Some e → enrolled st id ≡ Some e
known_before st w x id e moves each same now = by_found (registration_under id st.registrations) refl (sym (ap (λ c. option_and_then (enrolled_as (apply st x)) (registration_under id (registrations_after st.registrations c))) same) ∙ now)
  where
    by_found : (o : Option HeldRegistration) → registration_under id st.registrations ≡ o → option_and_then (enrolled_as (apply st x)) o ≡ Some e → option_and_then (enrolled_as st) o ≡ Some e
    by_found None found at = cc at
    by_found (Some r) found at = enrolled_before st w x moves r e (each_found (HasEdition st) (λ (q : HeldRegistration). bytes_eq q.id id) st.registrations r each found) at

-- Where one comes, it was known before, or it is the new one.
pub known_or_new : (st : State) (w : Write) (x : Effect) (id : List ℕ) (e : Enrolled) (r : HeldRegistration) → MovesCourses st w x → HaveEditions st → HasEdition st r
    → registrations_after st.registrations x.registrations ≡ comes_last st r → enrolled (apply st x) id ≡ Some e → (enrolled st id ≡ Some e) ⊎ (enrolled_as st r ≡ Some e)
known_or_new st w x id e r moves each new comes now =
    by_found (registration_under id st.registrations) refl
    (sym (ap (λ o. option_and_then (enrolled_as (apply st x)) o) (ap (λ rs. registration_under id rs) comes ∙ find-append (λ (q : HeldRegistration). bytes_eq q.id id) st.registrations (r ∷ []))) ∙ now)
  where
    by_last : (b : Bool) → option_and_then (enrolled_as (apply st x)) (cond b (Some r) None) ≡ Some e → enrolled_as st r ≡ Some e
    by_last true at = enrolled_before st w x moves r e new at
    by_last false at = cc at

    by_found : (o : Option HeldRegistration) → registration_under id st.registrations ≡ o → option_and_then (enrolled_as (apply st x)) (option_or o (registration_under id (r ∷ []))) ≡ Some e
        → (option_and_then (enrolled_as st) o ≡ Some e) ⊎ (enrolled_as st r ≡ Some e)
    by_found None found at = inr (by_last (bytes_eq r.id id) at)
    by_found (Some q) found at = inl (enrolled_before st w x moves q e (each_found (HasEdition st) (λ (y : HeldRegistration). bytes_eq y.id id) st.registrations q each found) at)

-- it has that id
pub its_id : (st : State) (id : List ℕ) (e : Enrolled) → enrolled st id ≡ Some e → e.registration.id ≡ id
its_id st id e is = by_found (registration_under id st.registrations) refl is
  where
    by_edition : (founding : Founding) (r : HeldRegistration) (o : Option SeenEdition) → r.id ≡ id → option_map (enrolled_with founding r) o ≡ Some e → e.registration.id ≡ id
    by_edition founding r None same at = cc at
    by_edition founding r (Some edition) same at =
        let known : enrolled_with founding r edition ≡ e = cc at in
        sym (ap (λ (y : Enrolled). y.registration.id) known) ∙ same

    by_founding : (r : HeldRegistration) (o : Option Founding) → r.id ≡ id → option_and_then (enrolled_from st r) o ≡ Some e → e.registration.id ≡ id
    by_founding r None same at = cc at
    by_founding r (Some founding) same at = by_edition founding r (slice_get st.editions r.edition) same at

    by_found : (o : Option HeldRegistration) → registration_under id st.registrations ≡ o → option_and_then (enrolled_as st) o ≡ Some e → e.registration.id ≡ id
    by_found None found at = cc at
    by_found (Some r) found at =
        by_founding r st.founding (same_text r.id id (sym (found_passes (λ (y : HeldRegistration). bytes_eq y.id id) st.registrations r found))) at

-- ---- the registration of a unit

abbrev IsFoundUnder : State → List ℕ → Target → Type 0
IsFoundUnder st id t = registration_under id st.registrations ≡ Some t.registration

-- it is that of its id
pub target_enrolled : (st : State) (id publisher : List ℕ) (t : Target) → target st id publisher ≡ Some t → enrolled st t.registration.id ≡ enrolled_as st t.registration
target_enrolled st id publisher t is =
    let found : registration_under id st.registrations ≡ Some t.registration = by_founding st.founding is in
    let same : t.registration.id ≡ id = same_text t.registration.id id (sym (found_passes (λ (y : HeldRegistration). bytes_eq y.id id) st.registrations t.registration found)) in
    ap (λ i. option_and_then (enrolled_as st) (registration_under i st.registrations)) same ∙ ap (λ o. option_and_then (enrolled_as st) o) found
  where
    by_unit : (founding : Founding) (r : HeldRegistration) (index : ℕ) (o : Option AssignableUnit)
        → option_map (λ (unit : AssignableUnit). record { base = founding.base; registration = r; index = index; publisher = publisher; unit = unit }) o ≡ Some t → r ≡ t.registration
    by_unit founding r index None at = cc at
    by_unit founding r index (Some unit) at =
        let known : record { base = founding.base; registration = r; index = index; publisher = publisher; unit = unit } ≡ t = cc at in
        ap (λ (y : Target). y.registration) known

    by_index : (founding : Founding) (r : HeldRegistration) (course : Course) (o : Option ℕ) → option_and_then (target_at founding.base r publisher course) o ≡ Some t → r ≡ t.registration
    by_index founding r course None at = cc at
    by_index founding r course (Some index) at = by_unit founding r index (unit_at index course) at

    by_edition : (founding : Founding) (r : HeldRegistration) (o : Option SeenEdition) → option_and_then (λ (e : SeenEdition). target_in founding.base r publisher e.course) o ≡ Some t → r ≡ t.registration
    by_edition founding r None at = cc at
    by_edition founding r (Some edition) at = by_index founding r edition.course (index_of_unit publisher edition.course) at

    by_found : (founding : Founding) (o : Option HeldRegistration) → option_and_then (λ r. target_of st publisher r founding) o ≡ Some t → o ≡ Some t.registration
    by_found founding None at = cc at
    by_found founding (Some r) at = ap Some (by_edition founding r (slice_get st.editions r.edition) at)

    by_founding : (o : Option Founding) → option_and_then (target_under st id publisher) o ≡ Some t → registration_under id st.registrations ≡ Some t.registration
    by_founding None at = cc at
    by_founding (Some founding) at = by_found founding (registration_under id st.registrations) at

-- ---- used ids

first_long : {A : Type 0} (p : A → Bool) (y : A) (xs : List A) → length (with_first p y xs) ≡ length xs
first_long p y [] = refl
first_long {A} p y (x ∷ xs) = by_test (p x) (first_long p y xs)
  where
    by_test : (b : Bool) → length (with_first p y xs) ≡ length xs → length (if b then y ∷ xs else x ∷ with_first p y xs) ≡ length (x ∷ xs)
    by_test true rest = refl
    by_test false rest = ap suc rest

change_long : {A : Type 0} (under : A → A → Bool) (xs : List A) (change : Change A) → length xs ≤ length (with_change under xs change)
change_long {A} under xs change = by_new change.new
  where
    replaced : (ys : List A) (o : Option A) → length (with_replaced under ys o) ≡ length ys
    replaced ys None = refl
    replaced ys (Some y) = first_long (λ x. under x y) y ys

    by_new : (o : Option A) → length xs ≤ length (with_replaced under (with_new xs o) change.replaced)
    by_new None = omega (arith, replaced xs change.replaced)
    by_new (Some y) = omega (arith, replaced (xs ++ y ∷ []) change.replaced, length-append xs (y ∷ []))

pub used_more : (st : State) (x : Effect) → (used_in st).count ≤ (used_in (apply st x)).count
used_more st x =
    let behind = extends st.statements x.statements in
    let statements : length (add_each st.statements x.statements) ≡ length st.statements + length behind.0 = ap (λ (l : List StoredStatement). length l) behind.1 ∙ length-append st.statements behind.0 in
    let registrations : length st.registrations ≤ length (registrations_after st.registrations x.registrations) = change_long (has_key_of registration_key) st.registrations x.registrations in
    let launches : length st.launches ≤ length (launches_after st.launches x.launches) = change_long (has_key_of session_of) st.launches x.launches in
    let made : length st.made_sessions ≤ length (made_sessions_after st.made_sessions x.made_sessions) = change_long (has_key_of made_session_id) st.made_sessions x.made_sessions in
    let a : length (ids_of st.statements) ≡ length st.statements = length-map st.statements (λ (s : StoredStatement). s.id) in
    let b : length (ids_of (add_each st.statements x.statements)) ≡ length (add_each st.statements x.statements) = length-map (add_each st.statements x.statements) (λ (s : StoredStatement). s.id) in
    let c : length (registration_ids st.registrations) ≡ length st.registrations = length-map st.registrations registration_key in
    let d : length (registration_ids (registrations_after st.registrations x.registrations)) ≡ length (registrations_after st.registrations x.registrations) = length-map (registrations_after st.registrations x.registrations) registration_key in
    let f : length (session_ids st.launches) ≡ length st.launches = length-map st.launches session_of in
    let g : length (session_ids (launches_after st.launches x.launches)) ≡ length (launches_after st.launches x.launches) = length-map (launches_after st.launches x.launches) session_of in
    let i : length (made_session_ids st.made_sessions) ≡ length st.made_sessions = length-map st.made_sessions made_session_id in
    let j : length (made_session_ids (made_sessions_after st.made_sessions x.made_sessions)) ≡ length (made_sessions_after st.made_sessions x.made_sessions) = length-map (made_sessions_after st.made_sessions x.made_sessions) made_session_id in
    let less : length (ids_of st.statements) + (length (registration_ids st.registrations) + (length (session_ids st.launches) + length (made_session_ids st.made_sessions)))
    ≤ length (ids_of (add_each st.statements x.statements)) + (length (registration_ids (registrations_after st.registrations x.registrations))
    + (length (session_ids (launches_after st.launches x.launches)) + length (made_session_ids (made_sessions_after st.made_sessions x.made_sessions)))) =
    omega (arith, statements, registrations, launches, made, a, b, c, d, f, g, i, j) in
    less
