-- The tallies of registrations: what they stand for where a registration comes, where a statement does or is voided, and
-- where a founding or an edition comes.
use Rattle.std.proofs.Common.{◌≡◌, ◌==◌, ◌<◌, ◌+◌, zero, suc, ℕ, List, [], ◌∷◌, ◌++◌, length, length-append, refl, sym, ◌∙◌, ap, subst, arith, eq-eqb, true≢false, Option, Some, None, Bool, true, false, cond, slice_get}
use Rattle.std.specs.Prelude.{option_and_then, option_map, position, if◌then◌else◌}
use Rattle.std.specs.Option.{option_or}
use Rattle.std.specs.Str.{bytes_eq}
use Rattle.std.proofs.lemmas.Bool.Decides.{nat_tests}
use Rattle.std.proofs.lemmas.Option.{cond_some, none-some, same_Some, slice_get_within}
use Rattle.cmi5_running_verdicts.specs.Running.{SeenRunning, TalliesStandFor}
use Rattle.cmi5_running_verdicts.specs.Tallies.{AreTallies}
use Rattle.cmi5_running_verdicts.specs.declared.tally.Tally.{Tally}
use Rattle.cmi5_running_sessions.specs.Cmi5SessionMarked.{MarkedStatement}
use Rattle.cmi5_running_verdicts.specs.Cmi5VerdictNodes.{SeenEnrolment}
use Rattle.lrs_json.specs.View.{view}
use Rattle.lrs_state.specs.Counted.{has_key_of, index_under}
use Rattle.lrs_state.specs.Editions.{SeenEdition, editions_after, is_same_edition}
use Rattle.lrs_state.specs.Founding.{founding_after}
use Rattle.lrs_parts.specs.Progress.{AreCounted, HasTallies, IsReadyToEnrol, enrolment_at, enrolment_in, enrolment_with, number_held, number_in, number_named}
use Rattle.lrs_state.specs.Registrations.{registration_key, registrations_after}
use Rattle.lrs_state.specs.declared.founding.Founding.{Founding}
use Rattle.lrs_state.specs.declared.registrations.HeldRegistration.{HeldRegistration}
use Rattle.lrs_parts.proofs.Events.{get_behind, passes_there, same_bytes, stands_there}
use Rattle.lrs_register.proofs.Firsts.{position-push}
use Rattle.lrs_register.specs.Changes.{with_replaced}
use Rattle.lrs_register.specs.Register.{with_new}
use Rattle.lrs_register.specs.declared.change.Change.{Change}
use Rattle.xapi_statement.specs.Statements.{is_that_id}
use Rattle.xapi_statement.specs.Statement.{registration_of}
use Rattle.xapi_statement.specs.Stored.{StoredStatement}

-- ---- registrations with their editions

abbrev seen_with : List ℕ → ℕ → Founding → SeenEdition → SeenEnrolment
seen_with id edition f e = record { registration = id; base = f.base; course = edition; nodes = e.course.nodes }

abbrev of_both : Option Founding → List SeenEdition → List ℕ → ℕ → Option SeenEnrolment
of_both founding editions id edition = option_and_then (λ (f : Founding). option_map (seen_with id edition f) (slice_get editions edition)) founding

-- the id and the edition are all that counts of a registration
same_enrolment : (founding : Option Founding) (editions : List SeenEdition) (h r : HeldRegistration) → h.id ≡ r.id → h.edition ≡ r.edition → enrolment_in founding editions h ≡ enrolment_in founding editions r
same_enrolment founding editions h r id edition =
    ap (λ (i : List ℕ). of_both founding editions i h.edition) id ∙ ap (λ (n : ℕ). of_both founding editions r.id n) edition

enrolled_id : (founding : Option Founding) (editions : List SeenEdition) (r : HeldRegistration) (e : SeenEnrolment) → enrolment_in founding editions r ≡ Some e → e.registration ≡ r.id
enrolled_id None editions r e is = absurd (none-some e is)
enrolled_id (Some f) editions r e is = by_edition (slice_get editions r.edition) is
  where
    by_edition : (o : Option SeenEdition) → option_map (enrolment_with r f) o ≡ Some e → e.registration ≡ r.id
    by_edition None is = absurd (none-some e is)
    by_edition (Some c) is = sym (ap (λ (x : SeenEnrolment). x.registration) (same_Some (enrolment_with r f c) e is))

-- ---- the registration that a statement names

named_index : (registrations : List HeldRegistration) (s : StoredStatement) (k : ℕ) → number_named s registrations ≡ Some k
    → (id : List ℕ) × (index_under registration_key id registrations ≡ Some k)
named_index registrations s k is = by_id (registration_of (view s.received)) is
  where
    by_id : (o : Option (List ℕ)) → option_and_then (λ (id : List ℕ). index_under registration_key id registrations) o ≡ Some k
        → (id : List ℕ) × (index_under registration_key id registrations ≡ Some k)
    by_id None is = absurd (none-some k is)
    by_id (Some id) is = (id, is)

other_id : (registrations : List HeldRegistration) (i id : List ℕ) (k : ℕ) (r : HeldRegistration) → index_under registration_key id registrations ≡ Some k → slice_get registrations k ≡ Some r
    → (index_under registration_key i registrations ≡ Some k → ⊥) → bytes_eq i r.id ≡ false
other_id registrations i id k r index there apart = by_test (bytes_eq i r.id) refl
  where
    by_test : (b : Bool) → bytes_eq i r.id ≡ b → b ≡ false
    by_test true is =
        let same : i ≡ id = same_bytes i r.id is ∙ same_bytes r.id id (passes_there (λ (x : HeldRegistration). bytes_eq (registration_key x) id) registrations k r index there) in
        absurd (apart (ap (λ (j : List ℕ). index_under registration_key j registrations) same ∙ index))
    by_test false is = refl

-- it names no other one
elsewhere_named : (registrations : List HeldRegistration) (s : StoredStatement) (id : List ℕ) (k : ℕ) (r : HeldRegistration) → index_under registration_key id registrations ≡ Some k
    → slice_get registrations k ≡ Some r → (number_named s registrations ≡ Some k → ⊥) → is_that_id r.id (registration_of (view s.received)) ≡ false
elsewhere_named registrations s id k r index there apart = by_named (registration_of (view s.received)) apart
  where
    by_named : (o : Option (List ℕ)) → (option_and_then (λ (i : List ℕ). index_under registration_key i registrations) o ≡ Some k → ⊥) → is_that_id r.id o ≡ false
    by_named None apart = refl
    by_named (Some i) apart = other_id registrations i id k r index there apart

-- ---- a statement comes, or is voided

-- what stays true of the tallies of the registrations that it doesn't name
abbrev pub Elsewhere : List MarkedStatement → List MarkedStatement → StoredStatement → Type 0
Elsewhere before after s = (e : SeenEnrolment) → (tallies : List Tally) → is_that_id e.registration (registration_of (view s.received)) ≡ false
    → AreTallies e before tallies → AreTallies e after tallies

-- one that it doesn't name
other_counted : (old new : SeenRunning) (founding : Option Founding) (editions : List SeenEdition) (registrations : List HeldRegistration) (before after : List MarkedStatement) (s : StoredStatement)
    → Elsewhere before after s → (id : List ℕ) (k : ℕ) (r : HeldRegistration) → index_under registration_key id registrations ≡ Some k → slice_get registrations k ≡ Some r
    → (number_named s registrations ≡ Some k → ⊥) → slice_get new.held k ≡ slice_get old.held k
    → HasTallies old founding editions before k r → HasTallies new founding editions after k r
other_counted old new founding editions registrations before after s elsewhere id k r index there apart held counted = record {
  enrolment = counted.enrolment;
  enrolled = counted.enrolled;
  stands = record {
    tallies = counted.stands.tallies;
    held = held ∙ counted.stands.held;
    are = elsewhere counted.enrolment counted.stands.tallies
        (ap (λ (i : List ℕ). is_that_id i (registration_of (view s.received))) (enrolled_id founding editions r counted.enrolment counted.enrolled)
        ∙ elsewhere_named registrations s id k r index there apart) counted.stands.are;
  };
}

-- the one that it names
named_counted : (old new : SeenRunning) (founding : Option Founding) (editions : List SeenEdition) (registrations : List HeldRegistration) (before after : List MarkedStatement) (number : ℕ) (e : SeenEnrolment)
    → enrolment_at founding editions registrations number ≡ Some e → (TalliesStandFor old before number e → TalliesStandFor new after number e)
    → (k : ℕ) (r : HeldRegistration) → k ≡ number → slice_get registrations k ≡ Some r → HasTallies old founding editions before k r → HasTallies new founding editions after k r
named_counted old new founding editions registrations before after number e at stands k r same there counted =
    let here : enrolment_in founding editions r ≡ Some e =
    sym (ap (λ (o : Option HeldRegistration). option_and_then (enrolment_in founding editions) o) there)
    ∙ (ap (λ (n : ℕ). enrolment_at founding editions registrations n) same ∙ at) in
    let its : counted.enrolment ≡ e = same_Some counted.enrolment e (sym counted.enrolled ∙ here) in
    let old_stands : TalliesStandFor old before number e =
    subst (λ (n : ℕ). TalliesStandFor old before n e) same (subst (λ (x : SeenEnrolment). TalliesStandFor old before k x) its counted.stands) in
    record {
      enrolment = e;
      enrolled = here;
      stands = subst (λ (n : ℕ). TalliesStandFor new after n e) (sym same) (stands old_stands);
    }

pub counted_on : (old new : SeenRunning) (founding : Option Founding) (editions : List SeenEdition) (registrations : List HeldRegistration) (before after : List MarkedStatement) (s : StoredStatement)
    → Elsewhere before after s → (number : ℕ) (e : SeenEnrolment) → number_named s registrations ≡ Some number → enrolment_at founding editions registrations number ≡ Some e
    → (TalliesStandFor old before number e → TalliesStandFor new after number e) → ((k : ℕ) → (k == number) ≡ false → slice_get new.held k ≡ slice_get old.held k) → length new.held ≡ length old.held
    → AreCounted old founding editions registrations before → AreCounted new founding editions registrations after
counted_on old new founding editions registrations before after s elsewhere number e named at stands others long counted = record {
  long = long ∙ counted.long;
  each = λ id k r index there. by_number id k r index there (k == number) refl;
}
  where
    by_number : (id : List ℕ) (k : ℕ) (r : HeldRegistration) → index_under registration_key id registrations ≡ Some k → slice_get registrations k ≡ Some r → (b : Bool) → (k == number) ≡ b
        → HasTallies new founding editions after k r
    by_number id k r index there true is =
        let same : k ≡ number = grind (arith, nat_tests) in
        named_counted old new founding editions registrations before after number e at stands k r same there (counted.each id k r index there)
    by_number id k r index there false is =
        other_counted old new founding editions registrations before after s elsewhere id k r index there
        (λ also. true≢false (sym (eq-eqb k number (same_Some k number (sym also ∙ named))) ∙ is)) (others k is) (counted.each id k r index there)

-- it names none that is held
pub counted_still : (running : SeenRunning) (founding : Option Founding) (editions : List SeenEdition) (registrations : List HeldRegistration) (before after : List MarkedStatement) (s : StoredStatement)
    → Elsewhere before after s → number_named s registrations ≡ None → AreCounted running founding editions registrations before → AreCounted running founding editions registrations after
counted_still running founding editions registrations before after s elsewhere none counted = record {
  long = counted.long;
  each = λ id k r index there. other_counted running running founding editions registrations before after s elsewhere id k r index there (λ also. none-some k (sym none ∙ also)) refl
      (counted.each id k r index there);
}

-- the one that it names has its edition
pub always_enrolled : (running : SeenRunning) (founding : Option Founding) (editions : List SeenEdition) (registrations : List HeldRegistration) (those : List MarkedStatement) (s : StoredStatement) (number : ℕ)
    → number_named s registrations ≡ Some number → enrolment_at founding editions registrations number ≡ None → AreCounted running founding editions registrations those → ⊥
always_enrolled running founding editions registrations those s number named none counted =
    let index = named_index registrations s number named in
    let held = stands_there (λ (x : HeldRegistration). bytes_eq (registration_key x) index.0) registrations number index.1 in
    let its : HasTallies running founding editions those number held.0 = counted.each index.0 number held.0 index.1 held.1 in
    none-some its.enrolment (sym none ∙ (ap (λ (o : Option HeldRegistration). option_and_then (enrolment_in founding editions) o) held.1 ∙ its.enrolled))

-- ---- a registration comes

get_front : {A : Type 0} (xs ys : List A) (k : ℕ) (x : A) → slice_get xs k ≡ Some x → slice_get (xs ++ ys) k ≡ Some x
get_front [] ys k x at = absurd (none-some x at)
get_front (y ∷ xs) ys zero x at = at
get_front (y ∷ xs) ys (suc k) x at = get_front xs ys k x at

pub counted_more : (old new : SeenRunning) (founding : Option Founding) (editions : List SeenEdition) (registrations : List HeldRegistration) (those : List MarkedStatement) (r : HeldRegistration) (e : SeenEnrolment)
    → enrolment_in founding editions r ≡ Some e → TalliesStandFor new those (length old.held) e → ((k : ℕ) → k < length old.held → slice_get new.held k ≡ slice_get old.held k)
    → length new.held ≡ length old.held + 1 → AreCounted old founding editions registrations those → AreCounted new founding editions (registrations ++ r ∷ []) those
counted_more old new founding editions registrations those r e enrolled stands others long counted = record {
  long = omega (arith, long, counted.long, length-append registrations (r ∷ []));
  each = λ id k x index there.
      by_index id k x there (position (λ (y : HeldRegistration). bytes_eq (registration_key y) id) registrations) refl
      (sym (position-push (λ (y : HeldRegistration). bytes_eq (registration_key y) id) registrations r) ∙ index);
}
  where
    by_index : (id : List ℕ) (k : ℕ) (x : HeldRegistration) → slice_get (registrations ++ r ∷ []) k ≡ Some x → (o : Option ℕ)
        → position (λ (y : HeldRegistration). bytes_eq (registration_key y) id) registrations ≡ o
        → option_or o (cond (bytes_eq (registration_key r) id) (Some (length registrations)) None) ≡ Some k → HasTallies new founding editions those k x
    by_index id k x there (Some j) first is =
        let index : position (λ (y : HeldRegistration). bytes_eq (registration_key y) id) registrations ≡ Some k = first ∙ is in
        let held = stands_there (λ (y : HeldRegistration). bytes_eq (registration_key y) id) registrations k index in
        let same : held.0 ≡ x = same_Some held.0 x (sym (get_front registrations (r ∷ []) k held.0 held.1) ∙ there) in
        let its : HasTallies old founding editions those k held.0 = counted.each id k held.0 index held.1 in
        let within : k < length old.held = omega (arith, slice_get_within registrations k held.0 held.1, counted.long) in
        record {
          enrolment = its.enrolment;
          enrolled = subst (λ (y : HeldRegistration). enrolment_in founding editions y ≡ Some its.enrolment) same its.enrolled;
          stands = record { tallies = its.stands.tallies; held = others k within ∙ its.stands.held; are = its.stands.are };
        }
    by_index id k x there None first is =
        let both : (bytes_eq (registration_key r) id ≡ true) × (length registrations ≡ k) = cond_some (bytes_eq (registration_key r) id) (length registrations) k is in
        let same : r ≡ x =
        same_Some r x (sym (get_behind registrations r []) ∙ (ap (λ (n : ℕ). slice_get (registrations ++ r ∷ []) n) both.1 ∙ there)) in
        record {
          enrolment = e;
          enrolled = subst (λ (y : HeldRegistration). enrolment_in founding editions y ≡ Some e) same enrolled;
          stands = subst (λ (n : ℕ). TalliesStandFor new those n e) (counted.long ∙ both.1) stands;
        }

-- ---- the parts beside change

pub counted_under : (running : SeenRunning) (founding later : Option Founding) (editions more : List SeenEdition) (registrations : List HeldRegistration) (those : List MarkedStatement)
    → ((r : HeldRegistration) (e : SeenEnrolment) → enrolment_in founding editions r ≡ Some e → enrolment_in later more r ≡ Some e)
    → AreCounted running founding editions registrations those → AreCounted running later more registrations those
counted_under running founding later editions more registrations those grows counted = record {
  long = counted.long;
  each = λ id k r index there.
      let its : HasTallies running founding editions those k r = counted.each id k r index there in
      record { enrolment = its.enrolment; enrolled = grows r its.enrolment its.enrolled; stands = its.stands };
}

kept_edition : (editions : List SeenEdition) (new : Option SeenEdition) (k : ℕ) (c : SeenEdition) → slice_get editions k ≡ Some c → slice_get (with_new editions new) k ≡ Some c
kept_edition editions None k c at = at
kept_edition editions (Some x) k c at = get_front editions (x ∷ []) k c at

enrolled_in_more : (f : Founding) (editions : List SeenEdition) (change : Change SeenEdition) → change.replaced ≡ None → (r : HeldRegistration) (e : SeenEnrolment)
    → option_map (enrolment_with r f) (slice_get editions r.edition) ≡ Some e → option_map (enrolment_with r f) (slice_get (editions_after editions change) r.edition) ≡ Some e
enrolled_in_more f editions change stay r e is = by_edition (slice_get editions r.edition) refl is
  where
    by_edition : (o : Option SeenEdition) → slice_get editions r.edition ≡ o → option_map (enrolment_with r f) o ≡ Some e → option_map (enrolment_with r f) (slice_get (editions_after editions change) r.edition) ≡ Some e
    by_edition None at is = absurd (none-some e is)
    by_edition (Some c) at is =
        ap (λ (o : Option SeenEdition). option_map (enrolment_with r f) o)
        (ap (λ (o : Option SeenEdition). slice_get (with_replaced (is_same_edition) (with_new editions change.new) o) r.edition) stay ∙ kept_edition editions change.new r.edition c at) ∙ is

-- what a registration has it keeps
pub enrolled_after : (founding new : Option Founding) (editions : List SeenEdition) (change : Change SeenEdition) → change.replaced ≡ None → (r : HeldRegistration) (e : SeenEnrolment)
    → enrolment_in founding editions r ≡ Some e → enrolment_in (founding_after founding new) (editions_after editions change) r ≡ Some e
enrolled_after None new editions change stay r e is = absurd (none-some e is)
enrolled_after (Some f) new editions change stay r e is = enrolled_in_more f editions change stay r e is

pub enrolled_on : (founding later new : Option Founding) (editions more : List SeenEdition) (change : Change SeenEdition) → later ≡ founding_after founding new → more ≡ editions_after editions change
    → change.replaced ≡ None → (r : HeldRegistration) (e : SeenEnrolment) → enrolment_in founding editions r ≡ Some e → enrolment_in later more r ≡ Some e
enrolled_on founding later new editions more change founded came stay r e is =
    ap (λ (x : Option Founding). enrolment_in x more r) founded ∙ (ap (λ (cs : List SeenEdition). enrolment_in (founding_after founding new) cs r) came ∙ enrolled_after founding new editions change stay r e is)

pub ready_on : (running : SeenRunning) (founding later new : Option Founding) (editions more : List SeenEdition) (change : Change SeenEdition) → later ≡ founding_after founding new → more ≡ editions_after editions change
    → change.replaced ≡ None → (r : HeldRegistration) (those : List MarkedStatement) → IsReadyToEnrol running founding editions r those → IsReadyToEnrol running later more r those
ready_on running founding later new editions more change founded came stay r those ready = record {
  enrolment = ready.enrolment;
  enrolled = enrolled_on founding later new editions more change founded came stay r ready.enrolment ready.enrolled;
  counted = ready.counted;
}

pub registered : (registrations : List HeldRegistration) (change : Change HeldRegistration) → change.replaced ≡ None → registrations_after registrations change ≡ with_new registrations change.new
registered registrations change stay = ap (λ (o : Option HeldRegistration). with_replaced (has_key_of registration_key) (with_new registrations change.new) o) stay

-- ---- a registration that is held

-- its tallies stand for these statements
pub held_stands : (running : SeenRunning) (founding : Option Founding) (editions : List SeenEdition) (registrations : List HeldRegistration) (those : List MarkedStatement) (r : HeldRegistration) (number : ℕ) (e : SeenEnrolment)
    → number_held r registrations ≡ Some number → enrolment_in founding editions r ≡ Some e → AreCounted running founding editions registrations those → TalliesStandFor running those number e
held_stands running founding editions registrations those r number e is enrolled counted = by_index (index_under registration_key r.id registrations) refl is
  where
    by_edition : (k : ℕ) (h : HeldRegistration) (b : Bool) → index_under registration_key r.id registrations ≡ Some k → slice_get registrations k ≡ Some h → (h.edition == r.edition) ≡ b
        → (if b then Some k else None) ≡ Some number → TalliesStandFor running those number e
    by_edition k h false index there edition is = absurd (none-some number is)
    by_edition k h true index there edition is =
        let same_edition : h.edition ≡ r.edition = grind (arith, nat_tests) in
        let same_id : h.id ≡ r.id = same_bytes h.id r.id (passes_there (λ (x : HeldRegistration). bytes_eq (registration_key x) r.id) registrations k h index there) in
        let its : HasTallies running founding editions those k h = counted.each r.id k h index there in
        let same : its.enrolment ≡ e = same_Some its.enrolment e (sym its.enrolled ∙ (same_enrolment founding editions h r same_id same_edition ∙ enrolled)) in
        subst (λ (n : ℕ). TalliesStandFor running those n e) (same_Some k number is) (subst (λ (x : SeenEnrolment). TalliesStandFor running those k x) same its.stands)

    by_held : (k : ℕ) (o : Option HeldRegistration) → index_under registration_key r.id registrations ≡ Some k → slice_get registrations k ≡ o
        → option_and_then (λ (held : HeldRegistration). if held.edition == r.edition then Some k else None) o ≡ Some number → TalliesStandFor running those number e
    by_held k None index there is = absurd (none-some number is)
    by_held k (Some h) index there is = by_edition k h (h.edition == r.edition) index there refl is

    by_index : (o : Option ℕ) → index_under registration_key r.id registrations ≡ o → option_and_then (number_in r registrations) o ≡ Some number → TalliesStandFor running those number e
    by_index None index is = absurd (none-some number is)
    by_index (Some k) index is = by_held k (slice_get registrations k) index refl is
