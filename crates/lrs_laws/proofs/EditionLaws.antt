-- The laws on editions: their numbers, the newest, and which one a registration has.
use Rattle.std.proofs.Common.{◌≡◌, ◌⊎◌, inl, inr, ℕ, List, [], ◌∷◌, ◌++◌, length, map, true, false, ◌&&◌, Option, Some, None, refl, sym, ap, subst, ◌∙◌, append-nil}
use Rattle.std.specs.Prelude.{filter_map, option_and_then, position, slice_get}
use Rattle.std.specs.List.{cons_option}
use Rattle.std.specs.Cmp.{second_so}
use Rattle.std.proofs.lemmas.Bool.{false≢true, true≢false}
use Rattle.std.proofs.lemmas.List.{map-append}
use Rattle.cmi5_course.specs.Courses.{Course, course_of}
use Rattle.lrs_agents.specs.declared.agents.Agent.{Agent}
use Rattle.lrs_history.specs.DeskEffects.{enrolling, enrolling_as}
use Rattle.lrs_history.specs.Effects.{effect, effect_of}
use Rattle.lrs_history.specs.History.{ComesNext, founds, is_operator, is_zero, state, state_from, step}
use Rattle.lrs_history.specs.Occasions.{Occasion, occasion}
use Rattle.lrs_history.specs.Refusals.{bad_form, barred, barred_document, conflict, missing, unless_there, unmergeable}
use Rattle.lrs_laws.proofs.Accepting.{accepted}
use Rattle.lrs_laws.proofs.Again.{no_reason}
use Rattle.lrs_laws.proofs.CourseLaws.{Leaves, MovesCourses, edition_still, edition_up, meant_there, moves_courses}
use Rattle.lrs_laws.proofs.EditionLists.{AreInOrder, in_order_still, none_in_order}
use Rattle.lrs_laws.proofs.EnrolledStill.{Enrols, enrols, registration_at}
use Rattle.lrs_laws.proofs.Fetching.{legal_from}
use Rattle.lrs_laws.proofs.Keepers.{state_from-append}
use Rattle.lrs_laws.proofs.Launched.{after_one, by_entries}
use Rattle.lrs_laws.proofs.Lists.{item_still}
use Rattle.lrs_laws.proofs.Walking.{over_entries}
use Rattle.lrs_laws.specs.Editions.{CoursesAreEditions, CoursesCountEditions, CoursesNameOne, EditionsAreFound, EditionsAreNumbered, EditionsStay, HasEditionMeant, NewestIsLast, RegistrationsKeepTheirEdition, course_in, edition_meant}
use Rattle.lrs_record.specs.Writes.{write_area}
use Rattle.lrs_record.specs.declared.entry.Entry.{Entry}
use Rattle.lrs_record.specs.declared.entry.Write.{Write}
use Rattle.lrs_record.specs.declared.entry.Write.TheVariants.{Enrol, Found}
use Rattle.lrs_register.proofs.Firsts.{position-item}
use Rattle.lrs_state.specs.Courses.{course_under, courses_after, index_meant}
use Rattle.lrs_state.specs.Editions.{SeenEdition, edition_under, editions_after, is_edition_of}
use Rattle.lrs_state.specs.Registrations.{registrations_after}
use Rattle.lrs_state.specs.State.{State, changes_nothing, nothing}
use Rattle.lrs_state.specs.declared.courses.HeldCourse.{HeldCourse}
use Rattle.lrs_state.specs.declared.effect.Effect.{Effect}
use Rattle.lrs_state.specs.declared.registrations.HeldRegistration.{HeldRegistration}

-- ---- numbers

in_order_after : (st : State) (w : Write) (x : Effect) → MovesCourses st w x → AreInOrder st.editions st.courses → AreInOrder (editions_after st.editions x.editions) (courses_after st.courses x.courses)
in_order_after st w x (inl leaves) order =
    subst (λ c. AreInOrder (editions_after st.editions c) (courses_after st.courses x.courses)) (sym leaves.editions)
    (subst (λ c. AreInOrder st.editions (courses_after st.courses c)) (sym leaves.courses) order)
in_order_after st w x (inr takes) order =
    subst (λ c. AreInOrder (editions_after st.editions c) (courses_after st.courses x.courses)) (sym takes.editions)
    (subst (λ c. AreInOrder (st.editions ++ edition_up st takes.tree ∷ []) (courses_after st.courses c)) (sym takes.courses) (in_order_still st.editions st.courses order (course_of takes.tree)))

all_in_order : (h : List Entry) → AreInOrder (state h).editions (state h).courses
all_in_order = by_entries (λ h. AreInOrder (state h).editions (state h).courses) none_in_order
    (λ h e order. subst (λ (st : State). AreInOrder st.editions st.courses) (sym (after_one h e))
    (in_order_after (state h) e.write (effect (state h) e) (moves_courses (state h) (occasion (state h) e) e.write) order))

pub editions_are_numbered : EditionsAreNumbered
editions_are_numbered h = (all_in_order h).numbers

pub editions_are_found : EditionsAreFound
editions_are_found h = (all_in_order h).found

pub newest_is_last : NewestIsLast
newest_is_last h = (all_in_order h).newest

pub courses_count_editions : CoursesCountEditions
courses_count_editions h = (all_in_order h).counts

pub courses_name_one : CoursesNameOne
courses_name_one h = (all_in_order h).apart

-- ---- editions stay

edition_on : (st : State) (more : List Entry) (k : ℕ) (e : SeenEdition) → slice_get st.editions k ≡ Some e → slice_get (state_from st more).editions k ≡ Some e
edition_on st [] k e is = is
edition_on st (x ∷ more) k e is = edition_on (step st x) more k e (edition_still st x.write (effect st x) (moves_courses st (occasion st x) x.write) k e is)

pub editions_stay : EditionsStay
editions_stay h more k e is = ap (λ (st : State). slice_get st.editions k) (state_from-append nothing h more) ∙ edition_on (state h) more k e is

-- ---- each entry that brings a course makes an edition

given_push : {A B : Type 0} (f : A → Option B) (xs : List A) (x : A) → filter_map f (xs ++ x ∷ []) ≡ filter_map f xs ++ cons_option (f x) []
given_push f [] x = refl
given_push {A} {B} f (y ∷ xs) x = ap (λ zs. cons_option (f y) zs) (given_push f xs x) ∙ by_some (f y)
  where
    by_some : (o : Option B) → cons_option o (filter_map f xs ++ cons_option (f x) []) ≡ cons_option o (filter_map f xs) ++ cons_option (f x) []
    by_some None = refl
    by_some (Some z) = refl

founding_brings : (w : Write) → founds w ≡ true → course_in w ≡ None
founding_brings (Found admin base) is = refl
founding_brings other is = absurd (cc is)

-- an entry that comes next brings no course, or changes something
brings : (limit : ℕ) (h : List Entry) (e : Entry) → ComesNext limit h e → (course_in e.write ≡ None) ⊎ (changes_nothing (effect (state h) e) ≡ false)
brings limit [] e next = inl (founding_brings e.write (second_so (is_operator e.caller && is_zero e.draw) (founds e.write) next))
brings limit (first ∷ more) e next = inr (accepted limit (first ∷ more) e next).changed

no_course : (w : Write) (x : Effect) → Leaves w x → (course_in w ≡ None) ⊎ (changes_nothing x ≡ false) → course_in w ≡ None
no_course w x leaves (inl none) = none
no_course w x leaves (inr changed) = by_why leaves.why
  where
    by_why : (course_in w ≡ None) ⊎ (changes_nothing x ≡ true) → course_in w ≡ None
    by_why (inl none) = none
    by_why (inr same) = absurd (true≢false (sym same ∙ changed))

abbrev courses_of : List SeenEdition → List Course
courses_of editions = map (λ (e : SeenEdition). e.course) editions

courses_with : (st : State) (w : Write) (x : Effect) (before : List Course) → MovesCourses st w x → (course_in w ≡ None) ⊎ (changes_nothing x ≡ false) → courses_of st.editions ≡ before
    → courses_of (editions_after st.editions x.editions) ≡ before ++ cons_option (course_in w) []
courses_with st w x before (inl leaves) changed is =
    ap (λ c. courses_of (editions_after st.editions c)) leaves.editions
    ∙ (is ∙ sym (ap (λ o. before ++ cons_option o []) (no_course w x leaves changed) ∙ append-nil before))
courses_with st w x before (inr takes) changed is =
    ap (λ c. courses_of (editions_after st.editions c)) takes.editions
    ∙ (map-append (λ (e : SeenEdition). e.course) st.editions (edition_up st takes.tree ∷ [])
    ∙ (ap (λ cs. cs ++ course_of takes.tree ∷ []) is ∙ sym (ap (λ v. before ++ cons_option (course_in v) []) takes.write)))

pub courses_are_editions : CoursesAreEditions
courses_are_editions limit h legal =
    over_entries limit (λ h. courses_of (state h).editions ≡ filter_map (λ (e : Entry). course_in e.write) h) refl
    (λ h e next is. ap (λ (st : State). courses_of st.editions) (after_one h e)
    ∙ (courses_with (state h) e.write (effect (state h) e) (filter_map (λ (x : Entry). course_in x.write) h) (moves_courses (state h) (occasion (state h) e) e.write) (brings limit h e next) is
    ∙ sym (given_push (λ (x : Entry). course_in x.write) h e))) h legal

-- ---- registrations

-- the edition at the index that is meant is the one that is meant
meant_is : (st : State) (course : List ℕ) (named : Option ℕ) (k : ℕ) → index_meant course named st.courses st.editions ≡ Some k → slice_get st.editions k ≡ edition_meant st course named
meant_is st course (Some number) k is =
    ap (λ o. option_and_then (λ i. slice_get st.editions i) o) (sym is) ∙ position-item (is_edition_of course number) st.editions
meant_is st course None k is = by_course (course_under course st.courses) is
  where
    by_course : (o : Option HeldCourse) → option_and_then (λ (held : HeldCourse). position (is_edition_of course held.editions) st.editions) o ≡ Some k
        → slice_get st.editions k ≡ option_and_then (λ (held : HeldCourse). edition_under course held.editions st.editions) o
    by_course None at = cc at
    by_course (Some held) at =
        ap (λ o. option_and_then (λ i. slice_get st.editions i) o) (sym at) ∙ position-item (is_edition_of course held.editions) st.editions

some_there : (o : Option ℕ) → unless_there o ≡ None → (k : ℕ) × (o ≡ Some k)
some_there None is = cc is
some_there (Some k) is = (k, refl)

-- an enrolment that comes next means an edition that is held
index_there : (limit : ℕ) (h : List Entry) (e : Entry) (course : List ℕ) (actor : Agent) (named : Option ℕ) → ComesNext limit h e → e.write ≡ Enrol course actor named
    → (k : ℕ) × (index_meant course named (state h).courses (state h).editions ≡ Some k)
index_there limit [] e course actor named next is =
    let founding : founds (Enrol course actor named) ≡ true = sym (ap founds is) ∙ second_so (is_operator e.caller && is_zero e.draw) (founds e.write) next in
    absurd (false≢true founding)
index_there limit (first ∷ more) e course actor named next is =
    let st : State = state (first ∷ more) in
    let at : Occasion = occasion st e in
    let free = no_reason (barred (write_area e.write) at.by ∷ bad_form e.write ∷ barred_document st at.by e.write ∷ missing st e.write ∷ unmergeable st e.write ∷ conflict st at e.write ∷ [])
    (accepted limit (first ∷ more) e next).free in
    some_there (index_meant course named st.courses st.editions) (sym (ap (missing st) is) ∙ free.1.1.1.0)

get_behind : {A : Type 0} (xs : List A) (y : A) → slice_get (xs ++ y ∷ []) (length xs) ≡ Some y
get_behind [] y = refl
get_behind (x ∷ xs) y = get_behind xs y

-- a registration stays as it is
registration_still : (st : State) (at : Occasion) (w : Write) (x : Effect) → Enrols st at w x → (k : ℕ) (r : HeldRegistration) → slice_get st.registrations k ≡ Some r
    → slice_get (registrations_after st.registrations x.registrations) k ≡ Some r
registration_still st at w x (inl same) k r is = ap (λ c. slice_get (registrations_after st.registrations c) k) same ∙ is
registration_still st at w x (inr registers) k r is =
    ap (λ (y : Effect). slice_get (registrations_after st.registrations y.registrations) k) registers.is ∙ item_still st.registrations (registration_at at registers.number registers.actor ∷ []) k r is

registration_on : (st : State) (more : List Entry) (k : ℕ) (r : HeldRegistration) → slice_get st.registrations k ≡ Some r → slice_get (state_from st more).registrations k ≡ Some r
registration_on st [] k r is = is
registration_on st (x ∷ more) k r is =
    registration_on (step st x) more k r (registration_still st (occasion st x) x.write (effect st x) (enrols st (occasion st x) x.write) k r is)

-- the same before and behind an enrolment and what follows
kept_edition : (st : State) (e : Entry) (more : List Entry) (course : List ℕ) (actor : Agent) (named : Option ℕ) (k : ℕ) → e.write ≡ Enrol course actor named
    → index_meant course named st.courses st.editions ≡ Some k → (edition : SeenEdition) → slice_get st.editions k ≡ Some edition
    → HasEditionMeant st (state_from st (e ∷ more)) ((occasion st e).supply 0) course actor named
kept_edition st e more course actor named k is meant edition held = record {
  edition = edition;
  registration = r;
  meant = sym (meant_is st course named k meant) ∙ held;
  made = registration_on (step st e) more (length st.registrations) r (ap (λ (y : Effect). slice_get (registrations_after st.registrations y.registrations) (length st.registrations)) effect_is ∙ get_behind st.registrations r);
  id_is = refl;
  actor_is = refl;
  edition_is = edition_on (step st e) more k edition (edition_still st e.write (effect st e) (moves_courses st (occasion st e) e.write) k edition held);
}
  where
    r : HeldRegistration
    r = registration_at (occasion st e) k actor

    effect_is : effect st e ≡ enrolling_as st (occasion st e) r
    effect_is = ap (λ w. effect_of st (occasion st e) w) is ∙ ap (λ o. enrolling st (occasion st e) actor o) meant

pub registrations_keep_their_edition : RegistrationsKeepTheirEdition
registrations_keep_their_edition limit h more e course actor named legal is =
    let next : ComesNext limit h e = legal_from limit [] h more e legal.1 in
    let meant = index_there limit h e course actor named next is in
    let held = meant_there (state h) course named meant.0 meant.1 in
    subst (λ (su : State). HasEditionMeant (state h) su ((occasion (state h) e).supply 0) course actor named) (sym (state_from-append nothing h (e ∷ more)))
    (kept_edition (state h) e more course actor named meant.0 is meant.1 held.0 held.1)
