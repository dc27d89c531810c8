-- At most one session of a unit is open in a registration: a launch abandons those that were.
use Rattle.std.proofs.Common.{◌≡◌, ◌⊎◌, inl, inr, ℕ, zero, suc, ◌+◌, ◌<◌, ◌≤◌, List, [], ◌∷◌, ◌++◌, length, Bool, true, false, not, ◌&&◌, ◌||◌, Option, Some, None, cond, refl, sym, ap, subst, ◌∙◌, arith, length-append, true≢false}
use Rattle.std.specs.Prelude.{filter, is_some, slice_get, slice_set}
use Rattle.std.specs.List.{range_with_len}
use Rattle.std.specs.Option.{option_map_or}
use Rattle.std.specs.Str.{bytes_eq}
use Rattle.std.specs.Cmp.Lexicographic.{same_text}
use Rattle.std.specs.Cmp.{first_so, second_so}
use Rattle.std.proofs.lemmas.Bool.{and_from, cases_eq, cases_lt, not-true}
use Rattle.std.proofs.lemmas.Cmp.{nat_list_eq_equiv}
use Rattle.std.proofs.lemmas.Option.{slice_get_within}
use Rattle.cmi5_course.specs.declared.launch.Launch.{Launch}
use Rattle.cmi5_course.specs.declared.launch.Mode.{Mode}
use Rattle.lrs_history.specs.Effects.{effect}
use Rattle.lrs_history.specs.Endings.{is_launch_of, is_number_of, is_open, open_of}
use Rattle.lrs_history.specs.History.{state}
use Rattle.lrs_history.specs.Launches.{Target, activity_at, launch_at}
use Rattle.lrs_history.specs.Occasions.{Occasion, occasion}
use Rattle.lrs_history.specs.Sessions.{is_closed, is_terminated}
use Rattle.lrs_laws.proofs.Abandoned.{each_still, launched_still}
use Rattle.lrs_laws.proofs.ClosedStill.{AreMatched, MovesLaunches, length_changed, matched_after, moves_launches, was_open}
use Rattle.lrs_laws.proofs.DeskKinds.{launched_by}
use Rattle.lrs_laws.proofs.Launched.{after_one, by_entries}
use Rattle.lrs_laws.proofs.Lists.{item_there, slice_get-append}
use Rattle.lrs_laws.specs.Sessions.{IsOpenOf, OneSessionIsOpen}
use Rattle.lrs_state.specs.Launches.{launches_after}
use Rattle.lrs_state.specs.Sessions.{as_abandoned, is_abandoned_in, with_abandoned, with_changed}
use Rattle.lrs_state.specs.State.{State, apply}
use Rattle.lrs_state.specs.declared.effect.Effect.{Effect}
use Rattle.lrs_state.specs.declared.sessions.HeldSession.{HeldSession}
use Rattle.lrs_record.specs.declared.entry.Entry.{Entry}

-- ---- an open session of a unit

abbrev is_open_at : State → List ℕ → List ℕ → ℕ → Bool
is_open_at st registration activity k = is_number_of st registration activity k && is_open st k

record OpenAt (st : State) (registration activity : List ℕ) (k : ℕ) : Type 0 where
  pub launch : Launch
  pub there : slice_get st.launches k ≡ Some launch
  pub of : is_launch_of registration activity launch ≡ true
  pub still : is_closed st k ≡ false

open_at : (st : State) (registration activity : List ℕ) (k : ℕ) → is_open_at st registration activity k ≡ true → OpenAt st registration activity k
open_at st registration activity k is = by_launch (slice_get st.launches k) refl is
  where
    by_launch : (o : Option Launch) → slice_get st.launches k ≡ o → option_map_or (is_launch_of registration activity) o false && (is_some o && not (is_closed st k)) ≡ true → OpenAt st registration activity k
    by_launch None there both = cc both
    by_launch (Some l) there both = record {
      launch = l;
      there = there;
      of = first_so (is_launch_of registration activity l) (not (is_closed st k)) both;
      still = not-true (is_closed st k) (second_so (is_launch_of registration activity l) (not (is_closed st k)) both);
    }

at_open : (st : State) (registration activity : List ℕ) (k : ℕ) → OpenAt st registration activity k → is_open_at st registration activity k ≡ true
at_open st registration activity k is =
    ap (λ o. option_map_or (is_launch_of registration activity) o false && (is_some o && not (is_closed st k))) is.there
    ∙ and_from (is_launch_of registration activity is.launch) (not (is_closed st k)) is.of (ap (λ b. not b) is.still)

-- ---- those that a launch abandons

set_gone : (sessions : List HeldSession) (k : ℕ) (s : HeldSession) → k < length sessions → is_abandoned_in (slice_set sessions k (as_abandoned s)) k ≡ true
set_gone [] k s less = absurd (omega (arith, less))
set_gone (x ∷ sessions) zero s less = refl
set_gone (x ∷ sessions) (suc k) s less = set_gone sessions k s (omega (arith, less))

changed_gone : (sessions : List HeldSession) (k : ℕ) → k < length sessions → is_abandoned_in (with_changed as_abandoned sessions k) k ≡ true
changed_gone sessions k less =
    let found = item_there sessions k less in
    ap (λ o. is_abandoned_in (option_map_or (λ s. slice_set sessions k (as_abandoned s)) o sessions) k) found.1 ∙ set_gone sessions k found.0 less

-- of a row of numbers those that pass are abandoned
row_gone : (p : ℕ → Bool) (a count k : ℕ) (sessions : List HeldSession) → a ≤ k → k < a + count → p k ≡ true → k < length sessions
    → is_abandoned_in (with_abandoned sessions (filter p (range_with_len a count))) k ≡ true
row_gone p a zero k sessions low high is there = absurd (omega (arith, low, high))
row_gone p a (suc count) k sessions low high is there =
    by_test (p a) refl (cases_eq a k) (λ more other less. row_gone p (a + 1) count k more (omega (arith, low, other)) (omega (arith, high)) is less)
  where
    rest : List ℕ
    rest = filter p (range_with_len (a + 1) count)

    by_test : (b : Bool) → p a ≡ b → (a ≡ k) ⊎ (a ≡ k → ⊥) → ((more : List HeldSession) → (a ≡ k → ⊥) → k < length more → is_abandoned_in (with_abandoned more rest) k ≡ true)
        → is_abandoned_in (with_abandoned sessions (cond b (a ∷ rest) rest)) k ≡ true
    by_test true at (inl same) later =
        each_still (with_changed as_abandoned sessions a) rest k (subst (λ n. is_abandoned_in (with_changed as_abandoned sessions n) k ≡ true) (sym same) (changed_gone sessions k there))
    by_test true at (inr other) later = later (with_changed as_abandoned sessions a) other (subst (λ n. k < n) (sym (length_changed as_abandoned sessions a)) there)
    by_test false at (inl same) later = absurd (true≢false (sym is ∙ (ap p (sym same) ∙ at)))
    by_test false at (inr other) later = later sessions other there

-- ---- an entry

abbrev IsOneOpen : State → List ℕ → List ℕ → Type 0
IsOneOpen st registration activity = (j k : ℕ) → is_open_at st registration activity j ≡ true → is_open_at st registration activity k ≡ true → j ≡ k

last_there : {A : Type 0} (xs : List A) (y : A) → slice_get (xs ++ y ∷ []) (length xs) ≡ Some y
last_there [] y = refl
last_there (x ∷ xs) y = last_there xs y

-- ---- a launch

module _ (st : State) (at : Occasion) (mode : Mode) (return_url : Option (List ℕ)) (t : Target) (matched : AreMatched st) where
  abbrev begun : Effect
  begun = launched_by st at mode return_url t

  abbrev now : State
  now = apply st begun

  abbrev comes : Launch
  comes = launch_at t mode (at.supply 0)

  begins : MovesLaunches st at begun
  begins = inr (record { mode = mode; return_url = return_url; unit = t; is = refl })

  -- an earlier one was open before
  earlier : (registration activity : List ℕ) (k : ℕ) → k < length st.launches → OpenAt now registration activity k → OpenAt st registration activity k
  earlier registration activity k less is = record {
    launch = is.launch;
    there = sym (slice_get-append st.launches (comes ∷ []) k less) ∙ is.there;
    of = is.of;
    still = was_open st at begun begins k is.still;
  }

  -- and is none of the unit that is launched
  of_another : (registration activity : List ℕ) (k : ℕ) → k < length st.launches → OpenAt now registration activity k → is_launch_of registration activity comes ≡ true → ⊥
  of_another registration activity k less is same =
      let its : registration ≡ t.registration.id = sym (same_text t.registration.id registration (sym (first_so (bytes_eq t.registration.id registration) (bytes_eq (activity_at t) activity) same))) in
      let its_unit : activity ≡ activity_at t = sym (same_text (activity_at t) activity (sym (second_so (bytes_eq t.registration.id registration) (bytes_eq (activity_at t) activity) same))) in
      let was : is_open_at st registration activity k ≡ true = at_open st registration activity k (earlier registration activity k less is) in
      let its_own : is_open_at st t.registration.id (activity_at t) k ≡ true =
      sym (ap (λ r. is_open_at st r activity k) its ∙ ap (λ a. is_open_at st t.registration.id a k) its_unit) ∙ was in
      let fits : k < length st.sessions = subst (λ n. k < n) (sym matched) less in
      let gone : is_abandoned_in (with_abandoned st.sessions (open_of st t.registration.id (activity_at t))) k ≡ true =
      row_gone (is_open_at st t.registration.id (activity_at t)) 0 (length st.launches) k st.sessions (omega arith) (omega (arith, less)) its_own fits in
      let closed : is_closed now k ≡ true =
      ap (λ b. b || is_terminated now k) (launched_still at.moment (with_abandoned st.sessions (open_of st t.registration.id (activity_at t))) true k gone) in
      true≢false (sym closed ∙ is.still)

  -- the last is that of the launch
  of_last : (registration activity : List ℕ) (k : ℕ) → length st.launches ≤ k → OpenAt now registration activity k → (k ≡ length st.launches) × (is_launch_of registration activity comes ≡ true)
  of_last registration activity k behind is =
      let within : k < length (st.launches ++ comes ∷ []) = slice_get_within (st.launches ++ comes ∷ []) k is.launch is.there in
      let last : k ≡ length st.launches = omega (arith, behind, within, length-append st.launches (comes ∷ [])) in
      let there : Some comes ≡ Some is.launch = sym (last_there st.launches comes) ∙ (ap (λ n. slice_get (st.launches ++ comes ∷ []) n) (sym last) ∙ is.there) in
      let same : comes ≡ is.launch = cc there in
      (last, ap (λ (l : Launch). is_launch_of registration activity l) same ∙ is.of)

  one_begun : (registration activity : List ℕ) → IsOneOpen st registration activity → IsOneOpen now registration activity
  one_begun registration activity one j k first next = by_places (cases_lt j (length st.launches)) (cases_lt k (length st.launches))
    where
      a : OpenAt now registration activity j
      a = open_at now registration activity j first

      b : OpenAt now registration activity k
      b = open_at now registration activity k next

      by_places : (j < length st.launches) ⊎ (length st.launches ≤ j) → (k < length st.launches) ⊎ (length st.launches ≤ k) → j ≡ k
      by_places (inl low) (inl under) =
          one j k (at_open st registration activity j (earlier registration activity j low a)) (at_open st registration activity k (earlier registration activity k under b))
      by_places (inl low) (inr behind) = absurd (of_another registration activity j low a (of_last registration activity k behind b).1)
      by_places (inr high) (inl under) = absurd (of_another registration activity k under b (of_last registration activity j high a).1)
      by_places (inr high) (inr behind) = (of_last registration activity j high a).0 ∙ sym (of_last registration activity k behind b).0

-- ---- every entry

one_after : (st : State) (at : Occasion) (x : Effect) → MovesLaunches st at x → AreMatched st → (registration activity : List ℕ) → IsOneOpen st registration activity → IsOneOpen (apply st x) registration activity
one_after st at x (inl quiet) matched registration activity one j k first next = one j k (before j first) (before k next)
  where
    before : (n : ℕ) → is_open_at (apply st x) registration activity n ≡ true → is_open_at st registration activity n ≡ true
    before n is =
        let now : OpenAt (apply st x) registration activity n = open_at (apply st x) registration activity n is in
        at_open st registration activity n (record {
          launch = now.launch;
          there = sym (ap (λ c. slice_get (launches_after st.launches c) n) quiet.launches) ∙ now.there;
          of = now.of;
          still = was_open st at x (inl quiet) n now.still;
        })
one_after st at x (inr launch) matched registration activity one j k first next =
    subst (λ y. IsOneOpen (apply st y) registration activity) (sym launch.is) (one_begun st at launch.mode launch.return_url launch.unit matched registration activity one) j k first next

-- ---- the law

abbrev OneInEach : State → Type 0
OneInEach st = AreMatched st × ((registration activity : List ℕ) → IsOneOpen st registration activity)

one_in_each : (h : List Entry) → OneInEach (state h)
one_in_each = by_entries (λ h. OneInEach (state h)) (refl, λ registration activity j k first next. cc first)
    (λ h e so_far. let st : State = state h in
    let at : Occasion = occasion st e in
    let moves : MovesLaunches st at (effect st e) = moves_launches st at e.write in
    subst OneInEach (sym (after_one h e)) (
      matched_after st at (effect st e) moves so_far.0,
      λ registration activity. one_after st at (effect st e) moves so_far.0 registration activity (so_far.1 registration activity),
    ))

open_of_unit : (st : State) (registration activity : List ℕ) (k : ℕ) → IsOpenOf st registration activity k → is_open_at st registration activity k ≡ true
open_of_unit st registration activity k is =
    at_open st registration activity k (record {
      launch = is.launch;
      there = is.launched;
      of = and_from (bytes_eq is.launch.registration registration) (bytes_eq is.launch.activity activity)
          (ap (λ i. bytes_eq i registration) is.registered ∙ nat_list_eq_equiv.refl registration) (ap (λ i. bytes_eq i activity) is.about ∙ nat_list_eq_equiv.refl activity);
      still = is.unclosed;
    })

pub one_session_is_open : OneSessionIsOpen
one_session_is_open h registration activity j k first next =
    (one_in_each h).1 registration activity j k (open_of_unit (state h) registration activity j first) (open_of_unit (state h) registration activity k next)
