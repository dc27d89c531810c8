-- The ids of registrations can be read again from their texts, and what is known of a registration with its edition.
use Rattle.std.proofs.Common.{◌≡◌, ◌⊎◌, inl, inr, ℕ, zero, suc, ◌+◌, ◌%◌, ◌<◌, List, ◌∷◌, length, Option, Some, None, IfSome, refl, sym, ap, subst}
use Rattle.std.specs.Prelude.{option_and_then, option_map, slice_get}
use Rattle.std.specs.Int.{bytes_high_first}
use Rattle.std.specs.List.{AllByRecursion}
use Rattle.std.specs.Str.{bytes_eq}
use Rattle.std.proofs.lemmas.List.Elements.{All-from_get_or}
use Rattle.cmi5_course.specs.Courses.{index_of_unit, unit_at}
use Rattle.cmi5_course.specs.Units.{AssignableUnit}
use Rattle.lrs_history.specs.DeskEffects.{coming}
use Rattle.lrs_history.specs.Effects.{effect, effect_of}
use Rattle.lrs_history.specs.Enrolments.{Enrolled, enrolled, enrolled_as, enrolled_from}
use Rattle.lrs_history.specs.History.{state}
use Rattle.lrs_history.specs.Launches.{Target, target, target_at, target_in, target_of, target_under}
use Rattle.lrs_history.specs.Occasions.{Occasion, given_in, occasion}
use Rattle.lrs_ids.specs.Ids.{Used, free_word, made_id}
use Rattle.lrs_laws.proofs.DeskKinds.{of_ending, of_enrolment, of_fetch, of_launch, of_waiver}
use Rattle.lrs_laws.proofs.Launched.{after_one, by_entries}
use Rattle.lrs_laws.proofs.Lists.{all_mapped, all_then, each_found, each_push}
use Rattle.lrs_names.proofs.WordBytes.{small_word_bytes}
use Rattle.lrs_names.specs.Ids.{IsId, bits_of, id_of_word}
use Rattle.lrs_names.specs.declared.id.TheConstants.{WORDS}
use Rattle.lrs_state.specs.Courses.{index_meant}
use Rattle.lrs_state.specs.Editions.{SeenEdition}
use Rattle.lrs_state.specs.Launches.{key_under, index_of_session}
use Rattle.lrs_state.specs.Registrations.{registration_under, registrations_after, unchanged_registrations}
use Rattle.lrs_state.specs.State.{State, used_in}
use Rattle.lrs_state.specs.declared.effect.Effect.{Effect}
use Rattle.lrs_state.specs.declared.founding.Founding.{Founding}
use Rattle.lrs_state.specs.declared.registrations.HeldRegistration.{HeldRegistration}
use Rattle.lrs_record.specs.declared.entry.Entry.{Entry}
use Rattle.lrs_record.specs.declared.entry.Write.{Write}
use Rattle.lrs_record.specs.declared.entry.Write.TheVariants.{Enrol, Fetch, Waive, Abandon}
use Rattle.lrs_record.specs.declared.entry.Write.TheVariants as write

-- ---- ids that are made

length-high_first : (k n : ℕ) → length (bytes_high_first k n) ≡ k
length-high_first zero n = refl
length-high_first (suc k) n = ap suc (length-high_first k n)

IsId-word : (word : ℕ) → IsId (id_of_word word)
IsId-word word =
    (length-high_first 16 (bits_of (word % WORDS)), All-from_get_or (λ b. b < 256) (id_of_word word) 0 (λ i less. small_word_bytes (bits_of (word % WORDS)) i))

IsId-made : (used : Used) (ids : List (List ℕ)) (most word k : ℕ) → IsId (made_id used ids most word k)
IsId-made used ids most word zero = IsId-word (free_word used ids most word)
IsId-made used ids most word (suc k) =
    IsId-made used (id_of_word (free_word used ids most word) ∷ ids) (most + 1) ((free_word used ids most word + 1) % WORDS) k

-- what an entry makes are ids
abbrev pub MakesIds : Occasion → Type 0
MakesIds at = (k : ℕ) → IsId (at.supply k)

pub makes_ids : (st : State) (e : Entry) → MakesIds (occasion st e)
makes_ids st e k = IsId-made (used_in st) (given_in e.write) ((used_in st).count + length (given_in e.write)) (e.draw.name % WORDS) k

-- ---- registrations

abbrev pub AreIds : List HeldRegistration → Type 0
AreIds registrations = AllByRecursion (λ (r : HeldRegistration). IsId r.id) registrations

-- a registration comes, with the first id that the entry makes
record Enrols (at : Occasion) (x : Effect) : Type 0 where
  pub registration : HeldRegistration
  pub id : registration.id ≡ at.supply 0
  pub registrations : x.registrations ≡ coming registration

abbrev MovesRegistrations : Occasion → Effect → Type 0
MovesRegistrations at x = (x.registrations ≡ unchanged_registrations) ⊎ Enrols at x

moves_registrations : (st : State) (at : Occasion) (w : Write) → MovesRegistrations at (effect_of st at w)
moves_registrations st at (Enrol course actor edition) =
    of_enrolment (MovesRegistrations at) st at (inl refl) actor (index_meant course edition st.courses st.editions)
    (λ k. inr (record { registration = record { id = at.supply 0; edition = k; actor = actor }; id = refl; registrations = refl }))
moves_registrations st at (write.Launch registration unit mode return_url) = of_launch (MovesRegistrations at) st at (inl refl) mode return_url (target st registration unit) (λ t. inl refl)
moves_registrations st at (Fetch name) = of_fetch (MovesRegistrations at) st at (inl refl) (key_under name st.keys) (λ told. inl refl) (λ key is unused still. inl refl)
moves_registrations st at (Waive registration unit reason) = of_waiver (MovesRegistrations at) st at (inl refl) reason (target st registration unit) (λ t is. inl refl)
moves_registrations st at (Abandon session) = of_ending (MovesRegistrations at) st at (inl refl) (index_of_session session st.launches) (λ numbers. inl refl)
moves_registrations st at other = inl refl

ids_after : (rs : List HeldRegistration) (at : Occasion) (x : Effect) → MakesIds at → MovesRegistrations at x → AreIds rs → AreIds (registrations_after rs x.registrations)
ids_after rs at x made (inl same) each = subst (λ c. AreIds (registrations_after rs c)) (sym same) each
ids_after rs at x made (inr comes) each =
    subst (λ c. AreIds (registrations_after rs c)) (sym comes.registrations)
    (each_push (λ (r : HeldRegistration). IsId r.id) rs comes.registration each (subst IsId (sym comes.id) (made 0)))

pub all_ids : (h : List Entry) → AreIds (state h).registrations
all_ids = by_entries (λ h. AreIds (state h).registrations) tt
    (λ h e each. subst (λ (st : State). AreIds st.registrations) (sym (after_one h e))
    (ids_after (state h).registrations (occasion (state h) e) (effect (state h) e) (makes_ids (state h) e) (moves_registrations (state h) (occasion (state h) e) e.write) each))

-- that of the one that is found
found_id : (st : State) (id : List ℕ) (r : HeldRegistration) → AreIds st.registrations → registration_under id st.registrations ≡ Some r → IsId r.id
found_id st id r each is = each_found (λ (x : HeldRegistration). IsId x.id) (λ (x : HeldRegistration). bytes_eq x.id id) st.registrations r each is

-- ---- units of registrations

abbrev HasId : Target → Type 0
HasId t = IsId t.registration.id

abbrev target_with : List ℕ → HeldRegistration → List ℕ → ℕ → AssignableUnit → Target
target_with base r publisher index unit = record { base = base; registration = r; index = index; publisher = publisher; unit = unit }

pub target_id : (st : State) (registration publisher : List ℕ) (t : Target) → AreIds st.registrations → target st registration publisher ≡ Some t → IsId t.registration.id
target_id st registration publisher t each is = subst (λ o. IfSome o HasId) is all
  where
    by_registration : (founding : Founding) (o : Option HeldRegistration) → registration_under registration st.registrations ≡ o → IfSome (option_and_then (λ r. target_of st publisher r founding) o) HasId
    by_registration founding None found = tt
    by_registration founding (Some r) found =
        all_then HasId (λ (e : SeenEdition). target_in founding.base r publisher e.course) (slice_get st.editions r.edition)
        (λ e. all_then HasId (target_at founding.base r publisher e.course) (index_of_unit publisher e.course)
        (λ index. all_mapped HasId (target_with founding.base r publisher index) (unit_at index e.course) (λ unit. found_id st registration r each found)))

    all : IfSome (target st registration publisher) HasId
    all = all_then HasId (target_under st registration publisher) st.founding (λ founding. by_registration founding (registration_under registration st.registrations) refl)

-- ---- registrations with their editions

-- what is known of one, if there is one
abbrev pub IsEnrolled : State → Option Enrolled → Type 0
IsEnrolled st None = Unit {0}
IsEnrolled st (Some e) = IsId e.registration.id × (slice_get st.editions e.registration.edition ≡ Some e.edition)

abbrev enrolled_with : Founding → HeldRegistration → SeenEdition → Enrolled
enrolled_with founding r edition = record { base = founding.base; registration = r; edition = edition }

pub is_enrolled_as : (st : State) (r : HeldRegistration) → IsId r.id → IsEnrolled st (enrolled_as st r)
is_enrolled_as st r is = by_founding st.founding
  where
    by_edition : (founding : Founding) (o : Option SeenEdition) → slice_get st.editions r.edition ≡ o → IsEnrolled st (option_map (enrolled_with founding r) o)
    by_edition founding None found = tt
    by_edition founding (Some edition) found = (is, found)

    by_founding : (o : Option Founding) → IsEnrolled st (option_and_then (enrolled_from st r) o)
    by_founding None = tt
    by_founding (Some founding) = by_edition founding (slice_get st.editions r.edition) refl

pub is_enrolled : (st : State) (id : List ℕ) → AreIds st.registrations → IsEnrolled st (enrolled st id)
is_enrolled st id each = by_registration (registration_under id st.registrations) refl
  where
    by_registration : (o : Option HeldRegistration) → registration_under id st.registrations ≡ o → IsEnrolled st (option_and_then (enrolled_as st) o)
    by_registration None found = tt
    by_registration (Some r) found = is_enrolled_as st r (found_id st id r each found)
