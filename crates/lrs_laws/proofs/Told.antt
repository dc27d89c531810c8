-- A block or a course that is satisfied has its satisfied statement: each entry tells what comes to be owed.
use Rattle.std.proofs.Common.{◌≡◌, ◌⊎◌, inl, inr, ℕ, ◌≤◌, ◌^◌, List, [], ◌∷◌, ◌++◌, length, Bool, true, false, Option, Some, None, refl, sym, ap, subst, ◌∙◌, arith, append-nil, true≢false}
use Rattle.std.specs.Str.{bytes_eq}
use Rattle.std.specs.Cmp.Lexicographic.{same_text}
use Rattle.std.proofs.lemmas.Cmp.{nat_list_eq_equiv}
use Rattle.cmi5_course.specs.declared.launch.Launch.{Launch}
use Rattle.cmi5_session.specs.Rules.{broken_outside}
use Rattle.lrs_history.specs.Effects.{new_by, owed_in_session, with_owed}
use Rattle.lrs_history.specs.Enrolments.{Enrolled, enrolled, enrolment_of, owed_behind}
use Rattle.lrs_history.specs.Made.{owed_made}
use Rattle.lrs_history.specs.Occasions.{Occasion}
use Rattle.lrs_history.specs.Refusals.{broken_by, forbidden}
use Rattle.lrs_history.specs.Whose.{authority_of, launch_of}
use Rattle.lrs_ids.specs.Ids.{Supply}
use Rattle.lrs_json.specs.Json.{Json}
use Rattle.lrs_json.specs.View.{view}
use Rattle.lrs_laws.proofs.CourseSizes.{IsNumbered}
use Rattle.lrs_laws.proofs.FreshIds.{AreFresh, AreUnused, all_news_added, fresh_behind}
use Rattle.lrs_laws.proofs.Lists.{each_append}
use Rattle.lrs_laws.proofs.OwedTold.{none_told_of, settled_told}
use Rattle.lrs_laws.proofs.Permitted.{permitted}
use Rattle.lrs_laws.proofs.Progress.{IsSettled, another, none_elsewhere, none_undefined, settled_each, tells_progress}
use Rattle.lrs_laws.proofs.Registered.{AreIds, IsEnrolled, is_enrolled}
use Rattle.lrs_laws.proofs.Walking.{Met, NonePass, SpeaksIn, by_speaker, its_rule, none_pass, undefined_outside}
use Rattle.lrs_names.specs.Ids.{IsId}
use Rattle.lrs_state.specs.State.{State}
use Rattle.xapi_index.proofs.Adding.{add_each-append}
use Rattle.xapi_index.specs.Batches.{WithId, ids_under}
use Rattle.lrs_ids.specs.Ids.{are_distinct}
use Rattle.xapi_statement.specs.Statements.{add_each}
use Rattle.xapi_statement.specs.Stored.{StoredStatement}

-- a registration with its course, settled before the entry
pub record Settles (st : State) (id : List ℕ) (e : Enrolled) : Type 0 where
  pub known : enrolled st id ≡ Some e
  pub is_id : IsId e.registration.id
  pub own : e.registration.id ≡ id
  pub numbered : IsNumbered e.edition
  pub settled : IsSettled (enrolment_of e) st.statements

-- what is owed of another registration tells of no progress
pub none_owed : (st : State) (session : List ℕ) (supply : Supply) (moment : ℕ) (new : List StoredStatement) (o : Option Enrolled) → IsEnrolled st o → (registration : List ℕ)
    → NonePass (tells_progress registration) (owed_made st session supply moment new o)
none_owed st session supply moment new None known registration = tt
none_owed st session supply moment new (Some e) known registration = none_told_of e known.0 session supply moment (owed_behind st new e) registration

-- what is owed behind new statements settles their registration
pub settled_own : (st : State) (session : List ℕ) (supply : Supply) (moment : ℕ) (new : List StoredStatement) (e : Enrolled) → IsId e.registration.id → IsNumbered e.edition
    → add_each st.statements new ≡ st.statements ++ new → AreFresh (st.statements ++ new) supply (2 ^ 32)
    → IsSettled (enrolment_of e) (add_each st.statements (new ++ owed_made st session supply moment new (Some e)))
settled_own st session supply moment new e is_id numbered added fresh =
    let made : List StoredStatement = owed_made st session supply moment new (Some e) in
    let fits : length e.edition.course.nodes ≤ 2 ^ 32 = omega (arith, numbered) in
    subst (λ l. IsSettled (enrolment_of e) l) (sym (add_each-append st.statements new made ∙ ap (λ l. add_each l made) added))
    (settled_told e is_id session supply moment (2 ^ 32) (st.statements ++ new) fits fresh)

-- ---- what callers say

-- new statements tell of no progress in that registration, or they are of its session
abbrev IsOwnOrNone : List ℕ → Option Launch → List StoredStatement → Type 0
IsOwnOrNone id o new = NonePass (tells_progress id) new ⊎ ((l : Launch) × (o ≡ Some l) × (l.registration ≡ id))

settled_behind : (st : State) (id : List ℕ) (e : Enrolled) → Settles st id e → AreIds st.registrations → (supply : Supply) (moment : ℕ) (o : Option Launch) (new : List StoredStatement)
    → add_each st.statements new ≡ st.statements ++ new → AreFresh (st.statements ++ new) supply (2 ^ 32) → IsOwnOrNone id o new
    → IsSettled (enrolment_of e) (add_each st.statements (new ++ owed_in_session st supply moment new o))
settled_behind st id e before ids supply moment o [] added fresh own = before.settled
settled_behind st id e before ids supply moment None (s ∷ ss) added fresh (inl none) =
    subst (λ xs. IsSettled (enrolment_of e) (add_each st.statements xs)) (sym (append-nil (s ∷ ss)))
    (settled_each (enrolment_of e) st.statements (s ∷ ss) (subst (λ i. NonePass (tells_progress i) (s ∷ ss)) (sym before.own) none) before.settled)
settled_behind st id e before ids supply moment None (s ∷ ss) added fresh (inr own) = cc own.1
settled_behind st id e before ids supply moment (Some l) (s ∷ ss) added fresh own = by_own (bytes_eq l.registration id) refl own
  where
    new : List StoredStatement
    new = s ∷ ss

    owed : List StoredStatement
    owed = owed_made st l.session supply moment new (enrolled st l.registration)

    by_own : (b : Bool) → bytes_eq l.registration id ≡ b → IsOwnOrNone id (Some l) new → IsSettled (enrolment_of e) (add_each st.statements (new ++ owed))
    by_own true is own =
        let found : enrolled st l.registration ≡ Some e = ap (λ i. enrolled st i) (same_text l.registration id (sym is)) ∙ before.known in
        subst (λ w. IsSettled (enrolment_of e) (add_each st.statements (new ++ owed_made st l.session supply moment new w))) (sym found)
        (settled_own st l.session supply moment new e before.is_id before.numbered added fresh)
    by_own false other (inl none) =
        settled_each (enrolment_of e) st.statements (new ++ owed)
        (subst (λ i. NonePass (tells_progress i) (new ++ owed)) (sym before.own)
        (each_append (λ (x : StoredStatement). tells_progress id (view x.received) ≡ false) new owed none
        (none_owed st l.session supply moment new (enrolled st l.registration) (is_enrolled st l.registration ids) id))) before.settled
    by_own false other (inr own) =
        let same : l ≡ own.0 = cc own.1 in
        let its : l.registration ≡ id = ap (λ (x : Launch). x.registration) same ∙ own.2 in
        absurd (true≢false (sym (ap (λ i. bytes_eq i id) its ∙ nat_list_eq_equiv.refl id) ∙ other))

pub settled_by_caller : (st : State) (at : Occasion) (id : List ℕ) (e : Enrolled) → Settles st id e → AreIds st.registrations → (supply : Supply) (ns : List WithId) → Met st at ns
    → are_distinct (ids_under ns) ≡ true → AreUnused st (ids_under ns) supply (2 ^ 32)
    → IsSettled (enrolment_of e) (add_each st.statements (with_owed st at supply (new_by st at.by at.moment ns)))
settled_by_caller st at id e before ids supply ns met apart unused = by_speaker R st at ns outside inside before.settled
  where
    R : List StoredStatement → Type 0
    R new = IsSettled (enrolment_of e) (add_each st.statements (with_owed st at supply new))

    new : List StoredStatement
    new = new_by st at.by at.moment ns

    behind : IsOwnOrNone id (launch_of st at.by) new → R new
    behind = settled_behind st id e before ids supply at.moment (launch_of st at.by) new (all_news_added st.statements at.moment (authority_of st at.by) ns apart)
        (fresh_behind st (ids_under ns) supply (2 ^ 32) at.moment (authority_of st at.by) ns refl apart unused)

    none_said : ((before : List StoredStatement) (j : Json) → forbidden st at.by before j ≡ None → tells_progress id j ≡ false) → R new
    none_said never = behind (inl (met (NonePass (tells_progress id)) (none_pass (tells_progress id) st at never) tt))

    outside : (admin : Bool) → ((so_far : List StoredStatement) (j : Json) → broken_by st at.by so_far j ≡ broken_outside admin j) → R new
    outside admin alike = none_said (λ so_far j free. none_undefined id j (undefined_outside st at admin alike so_far j free))

    inside : (l : Launch) → SpeaksIn st at l → R new
    inside l speaks = by_own (bytes_eq l.registration id) refl
      where
        by_own : (b : Bool) → bytes_eq l.registration id ≡ b → R new
        by_own true is = behind (inr (l, ap (launch_of st) speaks.acts ∙ speaks.launched, same_text l.registration id (sym is)))
        by_own false other =
            none_said (λ so_far j free. none_elsewhere id j (another l.registration id _ (permitted _ j (its_rule st at l so_far j speaks free)).registered other))
