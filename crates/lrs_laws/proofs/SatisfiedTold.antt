-- Over every legal history a block or a course that is satisfied has its satisfied statement.
use Rattle.std.proofs.Common.{◌≡◌, ◌⊎◌, inl, inr, ℕ, zero, suc, ◌+◌, ◌<◌, ◌≤◌, ◌^◌, List, [], ◌∷◌, ◌++◌, length, map, Bool, true, false, not, ◌&&◌, ◌||◌, cond, Some, None, refl, sym, ap, subst, ◌∙◌, arith, append-nil, true≢false}
use Rattle.std.specs.Prelude.{filter, option_and_then, slice_get}
use Rattle.std.specs.List.{AllByRecursion, list_any, range_with_len}
use Rattle.std.specs.Cmp.{first_so, second_so}
use Rattle.std.proofs.lemmas.Bool.{and_from, true_from_ne_false}
use Rattle.cmi5_launch.specs.Names.{satisfied}
use Rattle.cmi5_verdict.specs.Nodes.{SeenEnrolment, activity_of_node, is_owed, is_satisfied, is_unit_in}
use Rattle.cmi5_verdict.specs.Units.{counts_among, was_said}
use Rattle.lrs_history.specs.Effects.{effect, effect_of}
use Rattle.lrs_history.specs.Enrolments.{Enrolled, enrolled, enrolled_as, enrolment_of}
use Rattle.lrs_history.specs.History.{ComesNext, founds, is_operator, is_zero, state, step}
use Rattle.lrs_history.specs.Made.{owed_made}
use Rattle.lrs_history.specs.Occasions.{Occasion, occasion}
use Rattle.lrs_history.specs.Refusals.{bad_form, barred_document, barred, conflict, missing, unmergeable}
use Rattle.lrs_ids.specs.Ids.{Supply, rest_of, supply_of}
use Rattle.lrs_laws.proofs.Accepting.{accepted}
use Rattle.lrs_laws.proofs.Again.{no_reason}
use Rattle.lrs_laws.proofs.Counting.{many}
use Rattle.lrs_laws.proofs.CourseLaws.{MovesCourses, moves_courses}
use Rattle.lrs_laws.proofs.CourseSizes.{AreNumbered, IsNumbered, numbered_after}
use Rattle.lrs_laws.proofs.EnrolledStill.{Enrols, HasEdition, HaveEditions, Registers, enrols, have_editions_after, its_id, known_before, known_or_new, registered_edition, registration_at, used_more}
use Rattle.lrs_laws.proofs.FreshIds.{AreFresh}
use Rattle.lrs_laws.proofs.Launched.{after_one}
use Rattle.lrs_laws.proofs.Lists.{each_at}
use Rattle.lrs_laws.proofs.PageLaws.{founded}
use Rattle.lrs_laws.proofs.Progress.{IsSettled, any_weaker}
use Rattle.lrs_laws.proofs.Registered.{AreIds, IsEnrolled, all_ids, is_enrolled, is_enrolled_as, makes_ids}
use Rattle.lrs_laws.proofs.Satisfied.{satisfied_once, says_so}
use Rattle.lrs_laws.proofs.Told.{Settles, settled_own}
use Rattle.lrs_laws.proofs.ToldNext.{desk_fresh, fresh_rest, settled_next}
use Rattle.lrs_laws.proofs.Walking.{over_entries}
use Rattle.lrs_laws.specs.Verdicts.{SatisfiedAreTold}
use Rattle.lrs_replies.specs.Texts.{token_text}
use Rattle.lrs_state.specs.Founding.{founding_after}
use Rattle.lrs_state.specs.Registrations.{registration_under, registrations_after}
use Rattle.lrs_state.specs.State.{State, apply, nothing, used_in}
use Rattle.lrs_state.specs.declared.effect.Effect.{Effect}
use Rattle.lrs_state.specs.declared.founding.Founding.{Founding}
use Rattle.lrs_state.specs.declared.registrations.HeldRegistration.{HeldRegistration}
use Rattle.lrs_history.specs.Whose.{who_is}
use Rattle.lrs_record.specs.Writes.{write_area}
use Rattle.lrs_record.specs.declared.entry.Entry.{Entry}
use Rattle.lrs_record.specs.declared.entry.Write.{Write}
use Rattle.lrs_record.specs.declared.entry.Write.TheVariants.{Found}
use Rattle.xapi_statement.specs.Statements.{add_each}

-- ---- a store in which nothing is owed

abbrev TellsAll : State → Type 0
TellsAll st = (used_in st).count < 2 ^ 121 → (id : List ℕ) (e : Enrolled) → enrolled st id ≡ Some e → IsSettled (enrolment_of e) st.statements

record IsTold (st : State) : Type 0 where
  pub numbered : AreNumbered st.editions
  pub editions : HaveEditions st
  pub told : TellsAll st

-- such as one without registrations
none_registered : (st : State) → AreNumbered st.editions → st.registrations ≡ [] → IsTold st
none_registered st numbered none = record {
  numbered = numbered;
  editions = subst (λ rs. AllByRecursion (HasEdition st) rs) (sym none) tt;
  told = λ small id e known.
      let missing : None ≡ Some e = sym (ap (λ rs. option_and_then (enrolled_as st) (registration_under id rs)) none) ∙ known in
      cc missing;
}

first_entry : (w : Write) (at : Occasion) → founds w ≡ true → registrations_after [] (effect_of nothing at w).registrations ≡ []
first_entry (Found admin base) at is = refl
first_entry other at is = absurd (cc is)

-- ---- an entry

settles : (st : State) → IsTold st → AreIds st.registrations → (used_in st).count < 2 ^ 121 → (id : List ℕ) (e : Enrolled) → enrolled st id ≡ Some e → Settles st id e
settles st is ids small id e known =
    let there : IsEnrolled st (Some e) = subst (λ o. IsEnrolled st o) known (is_enrolled st id ids) in
    record {
      known = known;
      is_id = there.0;
      own = its_id st id e known;
      numbered = each_at IsNumbered st.editions e.registration.edition e.edition is.numbered there.1;
      settled = is.told small id e known;
    }

-- a registration that comes is told what it owes at once
settled_new : (st : State) (en : Entry) → AreNumbered st.editions → (used_in st).count < 2 ^ 121 → (registers : Registers st (occasion st en) en.write (effect st en)) (e : Enrolled)
    → enrolled_as st (registration_at (occasion st en) registers.number registers.actor) ≡ Some e → IsSettled (enrolment_of e) (add_each st.statements (effect st en).statements)
settled_new st en numbered small registers e known =
    subst (λ (x : Effect). IsSettled (enrolment_of e) (add_each st.statements x.statements)) (sym registers.is)
    (subst (λ o. IsSettled (enrolment_of e) (add_each st.statements (owed_made st (at.supply 1) left at.moment [] o))) (sym known)
    (settled_own st (at.supply 1) left at.moment [] e there.0 (each_at IsNumbered st.editions e.registration.edition e.edition numbered there.1) (sym (append-nil st.statements))
    (subst (λ l. AreFresh l left (2 ^ 32)) (sym (append-nil st.statements)) fresh)))
  where
    at : Occasion
    at = occasion st en

    left : Supply
    left = rest_of (rest_of at.supply)

    r : HeldRegistration
    r = registration_at at registers.number registers.actor

    there : IsEnrolled st (Some e)
    there = subst (λ o. IsEnrolled st o) known (is_enrolled_as st r (makes_ids st en 0))

    whole : AreFresh st.statements at.supply (suc (suc (2 ^ 32)))
    whole = subst (λ given. AreFresh st.statements (supply_of (used_in st) given en.draw.name) (suc (suc (2 ^ 32)))) (sym registers.brings_none) (desk_fresh st en.draw.name small)

    fresh : AreFresh st.statements left (2 ^ 32)
    fresh = fresh_rest st.statements (rest_of at.supply) (2 ^ 32) (fresh_rest st.statements at.supply (suc (2 ^ 32)) whole)

tells_all : (st : State) (en : Entry) (founding : Founding) → st.founding ≡ Some founding → IsTold st → AreIds st.registrations → bad_form en.write ≡ None → conflict st (occasion st en) en.write ≡ None
    → TellsAll (step st en)
tells_all st en founding is_founded is ids formed free small id e now = by_kind (enrols st at en.write)
  where
    at : Occasion
    at = occasion st en

    moves : MovesCourses st en.write (effect st en)
    moves = moves_courses st at en.write

    few : (used_in st).count < 2 ^ 121
    few = let now_few : (used_in (apply st (effect st en))).count < 2 ^ 121 = small in omega (arith, now_few, used_more st (effect st en))

    known_one : enrolled st id ≡ Some e → IsSettled (enrolment_of e) (add_each st.statements (effect st en).statements)
    known_one known =
        settled_next st (who_is st en.caller) en.moment (token_text st.length en.draw.secret) en.draw few ids id e (settles st is ids few id e known) en.write (makes_ids st en) formed free

    by_kind : Enrols st at en.write (effect st en) → IsSettled (enrolment_of e) (add_each st.statements (effect st en).statements)
    by_kind (inl same) = known_one (known_before st en.write (effect st en) id e moves is.editions same now)
    by_kind (inr registers) = by_known (known_or_new st en.write (effect st en) id e r moves is.editions new comes now)
      where
        r : HeldRegistration
        r = registration_at at registers.number registers.actor

        new : HasEdition st r
        new = registered_edition st founding r registers.edition is_founded registers.held

        comes : registrations_after st.registrations (effect st en).registrations ≡ st.registrations ++ r ∷ []
        comes = ap (λ (x : Effect). registrations_after st.registrations x.registrations) registers.is

        by_known : (enrolled st id ≡ Some e) ⊎ (enrolled_as st r ≡ Some e) → IsSettled (enrolment_of e) (add_each st.statements (effect st en).statements)
        by_known (inl known) = known_one known
        by_known (inr known) = settled_new st en is.numbered few registers e known

-- ---- a legal history

abbrev HasFounding : List Entry → Type 0
HasFounding [] = Unit {0}
HasFounding (first ∷ more) = (founding : Founding) × ((state (first ∷ more)).founding ≡ Some founding)

abbrev IsToldAfter : List Entry → Type 0
IsToldAfter h = HasFounding h × IsTold (state h)

told_next : (limit : ℕ) (h : List Entry) (en : Entry) → ComesNext limit h en → IsToldAfter h → IsToldAfter (h ++ en ∷ [])
told_next limit [] en next so_far =
    let first = founded en next in (
      (first.0, first.1),
      none_registered (state (en ∷ [])) (numbered_after limit [] en next tt) (first_entry en.write (occasion nothing en) (second_so (is_operator en.caller && is_zero en.draw) (founds en.write) next)),
    )
told_next limit (first ∷ more) en next so_far =
    let h : List Entry = first ∷ more in
    let st : State = state h in
    let at : Occasion = occasion st en in
    let reasons = no_reason (barred (write_area en.write) at.by ∷ bad_form en.write ∷ barred_document st at.by en.write ∷ missing st en.write ∷ unmergeable st en.write ∷ conflict st at en.write ∷ [])
    (accepted limit h en next).free in
    let founding = so_far.0 in (
      (founding.0, ap (λ (su : State). su.founding) (after_one h en) ∙ ap (λ o. founding_after o (effect st en).founding) founding.1),
      subst IsTold (sym (after_one h en)) (record {
        numbered = subst (λ (su : State). AreNumbered su.editions) (after_one h en) (numbered_after limit h en next so_far.1.numbered);
        editions = have_editions_after st at en.write (effect st en) founding.0 founding.1 (moves_courses st at en.write) (enrols st at en.write) so_far.1.editions;
        told = tells_all st en founding.0 founding.1 so_far.1 (all_ids h) reasons.1.0 reasons.1.1.1.1.1.0;
      }),
    )

-- ---- the law

-- what stands at an index of the verdicts
verdict_at : (f : ℕ → Bool) (a n k : ℕ) (b : Bool) → slice_get (map f (range_with_len a n)) k ≡ Some b → (k < n) × (f (a + k) ≡ b)
verdict_at f a zero k b is = cc is
verdict_at f a (suc n) zero b is = let here : f a ≡ b = cc is in (omega arith, (let same : a ≡ a + 0 = omega arith in subst (λ i. f i ≡ b) same here))
verdict_at f a (suc n) (suc k) b is =
    let rest = verdict_at f (a + 1) n k b is in
    let same : (a + 1) + k ≡ a + suc k = omega arith in
    (omega (arith, rest.0), subst (λ i. f i ≡ b) same rest.1)

some_many : {A : Type 0} (p : A → Bool) (xs : List A) → list_any p xs ≡ true → 1 ≤ many p xs
some_many p [] is = cc is
some_many {A} p (x ∷ xs) is = by_test (p x) is (some_many p xs)
  where
    by_test : (b : Bool) → b || list_any p xs ≡ true → (list_any p xs ≡ true → 1 ≤ many p xs) → 1 ≤ length (cond b (x ∷ filter p xs) (filter p xs))
    by_test true either rest = let one : 1 ≤ suc (many p xs) = omega arith in one
    by_test false either rest = rest either

pub satisfied_are_told : SatisfiedAreTold
satisfied_are_told limit h registration e index legal small known is =
    let st : State = state h in
    let s : SeenEnrolment = enrolment_of e in
    let start : IsToldAfter [] = (tt, none_registered nothing tt refl) in
    let told = over_entries limit IsToldAfter start (told_next limit) h legal in
    let verdict = verdict_at (is_satisfied s st.statements) 0 (length e.edition.course.nodes) index true is.satisfied in
    let there : 0 + index ≡ index = omega arith in
    let holds : is_satisfied s st.statements index ≡ true = subst (λ i. is_satisfied s st.statements i ≡ true) there verdict.1 in
    let few : (used_in st).count < 2 ^ 121 = omega (arith, small) in
    let settled : is_owed s st.statements index ≡ false = told.1.told few registration e known index verdict.0 in
    let name : List ℕ = activity_of_node s index in
    let said : was_said st.statements e.registration.id name satisfied ≡ true =
    true_from_ne_false (was_said st.statements e.registration.id name satisfied)
    (λ never. true≢false (sym (and_from (not (is_unit_in e.edition.course.nodes index) && is_satisfied s st.statements index) (not (was_said st.statements e.registration.id name satisfied))
    (and_from (not (is_unit_in e.edition.course.nodes index)) (is_satisfied s st.statements index) (ap (λ b. not b) is.holder) holds) (ap (λ b. not b) never)) ∙ settled)) in
    let one : 1 ≤ many (says_so e.registration.id name) st.statements =
    some_many (says_so e.registration.id name) st.statements
    (any_weaker (counts_among true st.statements e.registration.id name satisfied) (says_so e.registration.id name) (λ x so. first_so (says_so e.registration.id name x) true so) st.statements said) in
    let once : many (says_so e.registration.id name) st.statements ≤ 1 = satisfied_once limit h e.registration.id name legal in
    let exactly : many (says_so e.registration.id name) st.statements ≡ 1 = omega (arith, one, once) in
    ap (λ r. many (says_so r name) st.statements) (sym (its_id st registration e known)) ∙ exactly
