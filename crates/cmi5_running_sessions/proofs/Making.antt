-- Slots that are made ahead for several statements, and taken back where nothing is kept in them.
use Rattle.std.proofs.Common.{◌≡◌, ◌⊎◌, ℕ, ◌+◌, ◌<◌, ◌≤◌, Bool, true, false, if◌then◌else◌, ◌||◌, ◌==◌, eqb-true, List, [], ◌∷◌, ◌++◌, length, get_or, take, Option, Some, None, is_some, refl, sym, ap, subst, ◌∙◌, inl, inr}
use Rattle.std.specs.Prelude.{option_map}
use Rattle.std.specs.List.{list_any}
use Rattle.std.specs.Map.{lookup}
use Rattle.std.proofs.lemmas.Bool.{and_parts, false≢true}
use Rattle.std.proofs.lemmas.List.{take_all, take_more}
use Rattle.std.proofs.lemmas.List.Folds.{list_any-append, list_any_at}
use Rattle.cmi5_running_sessions.specs.Maps.{AddsFilled, AddsNoRegistrations, ChangesAt, ChangesUnits, TextMap, IsMade, MakesAt, MakesUnits, StaysFilled, UnitsByRegistration, is_nothing_reached, is_nothing_said, kept_in, taken_back, unit_at}
use Rattle.cmi5_running_sessions.specs.Kept.{SeenSessions, is_same, nothing_reached, nothing_said, own_of, reached_of}
use Rattle.cmi5_running_sessions.specs.Room.{AddsNoSlots, HasOwnSlot, HasSlotsFor, HasSlotsForEach, HasUnitSlot, HasUnitsSlot, IsFilled, KeepsSlots, KeepsSame, MakesSlots, TakesSlotsBack, needs_own, needs_unit}
use Rattle.cmi5_running_sessions.specs.declared.own.OwnSaid.{OwnSaid}
use Rattle.cmi5_running_sessions.specs.declared.units.Reached.{Reached}
use Rattle.cmi5_running_sessions.proofs.Altering.{unit_kept}
use Rattle.cmi5_session.specs.XapiStatementStored.{StoredStatement}

-- ---- one slot

module _ {X : Type 0} (nothing : X) where
  -- where a slot is made, the same is kept
  made_keeps : (needed : Bool) (old new : Option X) → IsMade nothing needed old new → kept_in nothing new ≡ kept_in nothing old
  made_keeps needed old new (inl is) = ap (λ (o : Option X). kept_in nothing o) is
  made_keeps needed None new (inr is) = ap (λ (o : Option X). kept_in nothing o) is.1
  made_keeps needed (Some x) new (inr is) = ap (λ (o : Option X). kept_in nothing o) is.1

  made_only : (needed : Bool) (old new : Option X) → IsMade nothing needed old new → is_some new ≡ true → (is_some old ≡ true) ⊎ (needed ≡ true)
  made_only needed old new (inl is) there = inl (sym (ap (λ (o : Option X). is_some o) is) ∙ there)
  made_only needed old new (inr is) there = inr is.0

  made_stays : (needed : Bool) (old new : Option X) → IsMade nothing needed old new → is_some old ≡ true → is_some new ≡ true
  made_stays needed old new (inl is) there = ap (λ (o : Option X). is_some o) is ∙ there
  made_stays needed None new (inr is) there = absurd (false≢true there)
  made_stays needed (Some x) new (inr is) there = ap (λ (o : Option X). is_some o) is.1

module _ {X : Type 0} (nothing : X) (is_nothing : X → Bool) (exact : (x : X) → is_nothing x ≡ true → x ≡ nothing) where
  -- where a slot is taken back, the same is kept
  taken_keeps : (o : Option X) → kept_in nothing (taken_back is_nothing o) ≡ kept_in nothing o
  taken_keeps None = refl
  taken_keeps (Some x) = by_test (is_nothing x) refl
    where
      by_test : (b : Bool) → is_nothing x ≡ b → kept_in nothing (if b then None else Some x) ≡ x
      by_test true is = sym (exact x is)
      by_test false off = refl

  back_keeps : (needed : Bool) (old new : Option X) → new ≡ (if needed then taken_back is_nothing old else old) → kept_in nothing new ≡ kept_in nothing old
  back_keeps true old new is = ap (λ (o : Option X). kept_in nothing o) is ∙ taken_keeps old
  back_keeps false old new is = ap (λ (o : Option X). kept_in nothing o) is

module _ {X : Type 0} (is_nothing : X → Bool) where
  taken_fewer : (o : Option X) → is_some (taken_back is_nothing o) ≡ true → is_some o ≡ true
  taken_fewer None there = there
  taken_fewer (Some x) there = refl

  back_fewer : (needed : Bool) (old new : Option X) → new ≡ (if needed then taken_back is_nothing old else old) → is_some new ≡ true → is_some old ≡ true
  back_fewer true old new is there = taken_fewer old (sym (ap (λ (o : Option X). is_some o) is) ∙ there)
  back_fewer false old new is there = sym (ap (λ (o : Option X). is_some o) is) ∙ there

module _ {X : Type 0} (nothing : X) (is_nothing : X → Bool) (empty : is_nothing nothing ≡ true) where
  -- in a slot that was left something is kept
  taken_gone : (o : Option X) → kept_in nothing (taken_back is_nothing o) ≡ nothing → is_some (taken_back is_nothing o) ≡ true → ⊥
  taken_gone None none there = false≢true there
  taken_gone (Some x) none there = by_test (is_nothing x) refl none there
    where
      by_test : (b : Bool) → is_nothing x ≡ b → kept_in nothing (if b then None else Some x) ≡ nothing → is_some (if b then None else Some x) ≡ true → ⊥
      by_test true is none there = false≢true there
      by_test false off none there = false≢true (sym off ∙ (ap is_nothing none ∙ empty))

  back_gone : (needed : Bool) (old new : Option X) → new ≡ (if needed then taken_back is_nothing old else old) → needed ≡ true → kept_in nothing new ≡ nothing → is_some new ≡ true → ⊥
  back_gone true old new is need none there =
      taken_gone old (sym (ap (λ (o : Option X). kept_in nothing o) is) ∙ none) (sym (ap (λ (o : Option X). is_some o) is) ∙ there)
  back_gone false old new is need none there = false≢true need

-- a slot that is filled stays
filled_stays : {X : Type 0} (change : X → X) (needed : Bool) (old new : Option X) → new ≡ (if needed then option_map change old else old) → is_some old ≡ true → is_some new ≡ true
filled_stays {X = X} change needed None new is there = absurd (false≢true there)
filled_stays {X = X} change true (Some x) new is there = ap (λ (o : Option X). is_some o) is
filled_stays {X = X} change false (Some x) new is there = ap (λ (o : Option X). is_some o) is

-- ---- nothing is kept

abbrev pub said_of : Option ℕ → Bool → Option ℕ → OwnSaid
said_of began ended last = record { began = began; ended = ended; last = last }

said_nothing : (said : OwnSaid) → is_nothing_said said ≡ true → said ≡ nothing_said
said_nothing said is = by_parts said.began said.ended said.last is
  where
    by_parts : (began : Option ℕ) (ended : Bool) (last : Option ℕ) → is_nothing_said (said_of began ended last) ≡ true → said_of began ended last ≡ nothing_said
    by_parts None false None is = refl
    by_parts None false (Some l) is = absurd (false≢true is)
    by_parts None true last is = absurd (false≢true is)
    by_parts (Some b) ended last is = absurd (false≢true is)

abbrev pub counts_of : ℕ → ℕ → Reached
counts_of n m = record { completed = n; passed = m }

reached_nothing : (r : Reached) → is_nothing_reached r ≡ true → r ≡ nothing_reached
reached_nothing r is =
    let tests = and_parts (r.completed == 0) (r.passed == 0) is in
    ap (λ n. counts_of n r.passed) (eqb-true r.completed 0 tests.0) ∙ ap (λ n. counts_of 0 n) (eqb-true r.passed 0 tests.1)

-- ---- one statement

test_one : (b : Bool) → b ≡ true → b || false ≡ true
test_one true is = refl
test_one false is = is

one_test : (b : Bool) → b || false ≡ true → b ≡ true
one_test true is = refl
one_test false is = is

-- slots are made for one statement
pub one_made : (s : StoredStatement) (old new : SeenSessions) → MakesAt nothing_said (λ id. needs_own id s) old.own new.own → MakesUnits (λ r a. needs_unit r a s) old.reached new.reached
    → AddsFilled old.reached new.reached → MakesSlots (s ∷ []) old new
one_made s old new own units filled = record {
  same = record {
    own = λ id. made_keeps nothing_said (needs_own id s) (lookup (is_same id) old.own) (lookup (is_same id) new.own) (own id);
    reached = λ r a. made_keeps nothing_reached (needs_unit r a s) (unit_at r a old.reached) (unit_at r a new.reached) (units r a);
  };
  own = λ id there. own_only id (made_only nothing_said (needs_own id s) (lookup (is_same id) old.own) (lookup (is_same id) new.own) (own id) there);
  unit = λ r a there. unit_only r a (made_only nothing_reached (needs_unit r a s) (unit_at r a old.reached) (unit_at r a new.reached) (units r a) there);
  units = λ r there. units_only r (filled r there);
  filled = λ r holds there. still_filled r holds (filled r there);
}
  where
    own_only : (id : List ℕ) → HasOwnSlot id old ⊎ (needs_own id s ≡ true) → HasOwnSlot id old ⊎ (list_any (needs_own id) (s ∷ []) ≡ true)
    own_only id (inl there) = inl there
    own_only id (inr needed) = inr (test_one (needs_own id s) needed)

    unit_only : (r a : List ℕ) → HasUnitSlot r a old ⊎ (needs_unit r a s ≡ true) → HasUnitSlot r a old ⊎ (list_any (needs_unit r a) (s ∷ []) ≡ true)
    unit_only r a (inl there) = inl there
    unit_only r a (inr needed) = inr (test_one (needs_unit r a s) needed)

    unit_was : (r a : List ℕ) → HasUnitSlot r a old ⊎ (needs_unit r a s ≡ true) → HasUnitsSlot r old ⊎ ((q : List ℕ) × (list_any (needs_unit r q) (s ∷ []) ≡ true))
    unit_was r a (inl there) = inl (unit_kept r a old.reached there)
    unit_was r a (inr needed) = inr (a, test_one (needs_unit r a s) needed)

    units_only : (r : List ℕ) → HasUnitsSlot r old ⊎ ((a : List ℕ) × HasUnitSlot r a new) → HasUnitsSlot r old ⊎ ((a : List ℕ) × (list_any (needs_unit r a) (s ∷ []) ≡ true))
    units_only r (inl had) = inl had
    units_only r (inr one) = unit_was r one.0 (made_only nothing_reached (needs_unit r one.0 s) (unit_at r one.0 old.reached) (unit_at r one.0 new.reached) (units r one.0) one.1)

    still_filled : (r : List ℕ) → IsFilled r old → HasUnitsSlot r old ⊎ ((a : List ℕ) × HasUnitSlot r a new) → (a : List ℕ) × HasUnitSlot r a new
    still_filled r holds (inl had) =
        let one = holds had in
        (one.0, made_stays nothing_reached (needs_unit r one.0 s) (unit_at r one.0 old.reached) (unit_at r one.0 new.reached) (units r one.0) one.1)
    still_filled r holds (inr one) = one

pub made_kept : (s : StoredStatement) (old new : SeenSessions) → MakesAt nothing_said (λ id. needs_own id s) old.own new.own → MakesUnits (λ r a. needs_unit r a s) old.reached new.reached
    → KeepsSlots old new
made_kept s old new own units = record {
  own = λ id there. made_stays nothing_said (needs_own id s) (lookup (is_same id) old.own) (lookup (is_same id) new.own) (own id) there;
  unit = λ r a there. made_stays nothing_reached (needs_unit r a s) (unit_at r a old.reached) (unit_at r a new.reached) (units r a) there;
}

-- no unit changes
pub units_same : (s : StoredStatement) (old new : UnitsByRegistration) → new ≡ old → MakesUnits (λ r a. needs_unit r a s) old new
units_same s old new is = λ r a. inl (ap (λ (es : UnitsByRegistration). unit_at r a es) is)

-- slots are taken back that one statement needs
pub one_taken : (s : StoredStatement) (old new : SeenSessions) → ChangesAt (λ id. needs_own id s) (taken_back is_nothing_said) old.own new.own
    → ChangesUnits (λ r a. needs_unit r a s) (taken_back is_nothing_reached) old.reached new.reached → AddsNoRegistrations old.reached new.reached → StaysFilled old.reached new.reached
    → TakesSlotsBack (s ∷ []) old new
one_taken s old new own units fewer filled = record {
  same = record {
    own = λ id. back_keeps nothing_said is_nothing_said said_nothing (needs_own id s) (lookup (is_same id) old.own) (lookup (is_same id) new.own) (own id);
    reached = λ r a. back_keeps nothing_reached is_nothing_reached reached_nothing (needs_unit r a s) (unit_at r a old.reached) (unit_at r a new.reached) (units r a);
  };
  fewer = record {
    own = λ id there. back_fewer is_nothing_said (needs_own id s) (lookup (is_same id) old.own) (lookup (is_same id) new.own) (own id) there;
    unit = λ r a there. back_fewer is_nothing_reached (needs_unit r a s) (unit_at r a old.reached) (unit_at r a new.reached) (units r a) there;
    units = fewer;
  };
  filled = filled;
  own = λ id needed none there. back_gone nothing_said is_nothing_said refl (needs_own id s) (lookup (is_same id) old.own) (lookup (is_same id) new.own) (own id) (one_test (needs_own id s) needed) none there;
  unit = λ r a needed none there.
      back_gone nothing_reached is_nothing_reached refl (needs_unit r a s) (unit_at r a old.reached) (unit_at r a new.reached) (units r a) (one_test (needs_unit r a s) needed) none there;
}

-- a statement fills its slots
pub filled_kept : (p : List ℕ → Bool) (q : List ℕ → List ℕ → Bool) (f : OwnSaid → OwnSaid) (g : Reached → Reached) (old new : SeenSessions) → ChangesAt p (option_map f) old.own new.own
    → ChangesUnits q (option_map g) old.reached new.reached → KeepsSlots old new
filled_kept p q f g old new own units = record {
  own = λ id there. filled_stays f (p id) (lookup (is_same id) old.own) (lookup (is_same id) new.own) (own id) there;
  unit = λ r a there. filled_stays g (q r a) (unit_at r a old.reached) (unit_at r a new.reached) (units r a) there;
}

pub own_kept : (p : List ℕ → Bool) (f : OwnSaid → OwnSaid) (own new : TextMap OwnSaid) (reached : UnitsByRegistration) → ChangesAt p (option_map f) own new
    → KeepsSlots (record { own = own; reached = reached }) (record { own = new; reached = reached })
own_kept p f own new reached changed = record {
  own = λ id there. filled_stays f (p id) (lookup (is_same id) own) (lookup (is_same id) new) (changed id) there;
  unit = λ r a there. there;
}

pub units_kept : (q : List ℕ → List ℕ → Bool) (g : Reached → Reached) (own : TextMap OwnSaid) (reached new : UnitsByRegistration) → ChangesUnits q (option_map g) reached new
    → KeepsSlots (record { own = own; reached = reached }) (record { own = own; reached = new })
units_kept q g own reached new changed = record {
  own = λ id there. there;
  unit = λ r a there. filled_stays g (q r a) (unit_at r a reached) (unit_at r a new) (changed r a) there;
}

-- ---- several statements

same_then : (old mid new : SeenSessions) → KeepsSame old mid → KeepsSame mid new → KeepsSame old new
same_then old mid new one two = record { own = λ id. two.own id ∙ one.own id; reached = λ r a. two.reached r a ∙ one.reached r a }

pub none_made : (statements : List StoredStatement) (s : SeenSessions) → MakesSlots statements s s
none_made statements s = record {
  same = record { own = λ id. refl; reached = λ r a. refl };
  own = λ id there. inl there;
  unit = λ r a there. inl there;
  units = λ r there. inl there;
  filled = λ r holds. holds;
}

-- slots are made for one of them, too
pub more_made : (statements : List StoredStatement) (i : ℕ) (x : StoredStatement) (old mid new : SeenSessions) → i < length statements → x ≡ get_or statements i x
    → MakesSlots statements old mid → MakesSlots (x ∷ []) mid new → MakesSlots statements old new
more_made statements i x old mid new within is before more = record {
  same = same_then old mid new before.same more.same;
  own = λ id there. own_by id (more.own id there);
  unit = λ r a there. unit_by r a (more.unit r a there);
  units = λ r there. units_by r (more.units r there);
  filled = λ r holds. more.filled r (before.filled r holds);
}
  where
    among : (p : StoredStatement → Bool) → list_any p (x ∷ []) ≡ true → list_any p statements ≡ true
    among p passes = list_any_at p statements i x within (ap p (sym is) ∙ one_test (p x) passes)

    own_by : (id : List ℕ) → HasOwnSlot id mid ⊎ (list_any (needs_own id) (x ∷ []) ≡ true) → HasOwnSlot id old ⊎ (list_any (needs_own id) statements ≡ true)
    own_by id (inl there) = before.own id there
    own_by id (inr needed) = inr (among (needs_own id) needed)

    unit_by : (r a : List ℕ) → HasUnitSlot r a mid ⊎ (list_any (needs_unit r a) (x ∷ []) ≡ true) → HasUnitSlot r a old ⊎ (list_any (needs_unit r a) statements ≡ true)
    unit_by r a (inl there) = before.unit r a there
    unit_by r a (inr needed) = inr (among (needs_unit r a) needed)

    units_by : (r : List ℕ) → HasUnitsSlot r mid ⊎ ((a : List ℕ) × (list_any (needs_unit r a) (x ∷ []) ≡ true)) → HasUnitsSlot r old ⊎ ((a : List ℕ) × (list_any (needs_unit r a) statements ≡ true))
    units_by r (inl there) = before.units r there
    units_by r (inr needed) = inr (needed.0, among (needs_unit r needed.0) needed.1)

-- one statement more has its slots, and those before it keep theirs
still_there : (old new : SeenSessions) → KeepsSlots old new → (xs : List StoredStatement) → HasSlotsForEach old xs → HasSlotsForEach new xs
still_there old new kept [] each = tt
still_there old new kept (x ∷ xs) each = (record { own = λ id needed. kept.own id (each.0.own id needed); unit = λ r a needed. kept.unit r a (each.0.unit r a needed) }, still_there old new kept xs each.1)

one_there : (s : SeenSessions) (xs : List StoredStatement) (x : StoredStatement) → HasSlotsForEach s xs → HasSlotsFor s x → HasSlotsForEach s (xs ++ x ∷ [])
one_there s [] x each one = (one, tt)
one_there s (y ∷ xs) x each one = (each.0, one_there s xs x each.1 one)

pub more_there : (old new : SeenSessions) (statements : List StoredStatement) (i : ℕ) (x : StoredStatement) → i < length statements → x ≡ get_or statements i x → KeepsSlots old new
    → HasSlotsForEach old (take i statements) → HasSlotsFor new x → HasSlotsForEach new (take (i + 1) statements)
more_there old new statements i x within is kept each one =
    subst (λ xs. HasSlotsForEach new xs) (sym (take_more statements i x within ∙ ap (λ y. take i statements ++ y ∷ []) (sym is)))
    (one_there new (take i statements) x (still_there old new kept (take i statements) each) one)

pub all_there : (s : SeenSessions) (statements : List StoredStatement) (i : ℕ) → length statements ≤ i → HasSlotsForEach s (take i statements) → HasSlotsForEach s statements
all_there s statements i end each = subst (λ xs. HasSlotsForEach s xs) (take_all i statements end) each

pub none_added : (s : SeenSessions) → AddsNoSlots s s
none_added s = record { own = λ id there. there; unit = λ r a there. there; units = λ r there. there }

pub none_taken : (s : SeenSessions) → TakesSlotsBack [] s s
none_taken s = record {
  same = record { own = λ id. refl; reached = λ r a. refl };
  fewer = none_added s;
  filled = λ r holds. holds;
  own = λ id needed. absurd (false≢true needed);
  unit = λ r a needed. absurd (false≢true needed);
}

-- those of one statement more are taken back, too
pub more_taken : (statements : List StoredStatement) (i : ℕ) (x : StoredStatement) (old mid new : SeenSessions) → i < length statements → x ≡ get_or statements i x
    → TakesSlotsBack (take i statements) old mid → TakesSlotsBack (x ∷ []) mid new → TakesSlotsBack (take (i + 1) statements) old new
more_taken statements i x old mid new within is before more =
    subst (λ xs. TakesSlotsBack xs old new) (sym (take_more statements i x within ∙ ap (λ y. take i statements ++ y ∷ []) (sym is))) (record {
      same = same_then old mid new before.same more.same;
      fewer = record {
        own = λ id there. before.fewer.own id (more.fewer.own id there);
        unit = λ r a there. before.fewer.unit r a (more.fewer.unit r a there);
        units = λ r there. before.fewer.units r (more.fewer.units r there);
      };
      filled = λ r holds. more.filled r (before.filled r holds);
      own = λ id needed none there.
          own_by id (list_any (needs_own id) (take i statements)) refl (sym (list_any-append (needs_own id) (take i statements) (x ∷ [])) ∙ needed) none there;
      unit = λ r a needed none there.
          unit_by r a (list_any (needs_unit r a) (take i statements)) refl (sym (list_any-append (needs_unit r a) (take i statements) (x ∷ [])) ∙ needed) none there;
    })
  where
    own_by : (id : List ℕ) (b : Bool) → list_any (needs_own id) (take i statements) ≡ b → (b || list_any (needs_own id) (x ∷ [])) ≡ true → own_of id new ≡ nothing_said → HasOwnSlot id new → ⊥
    own_by id true is needed none there = before.own id is (sym (more.same.own id) ∙ none) (more.fewer.own id there)
    own_by id false off needed none there = more.own id needed none there

    unit_by : (r a : List ℕ) (b : Bool) → list_any (needs_unit r a) (take i statements) ≡ b → (b || list_any (needs_unit r a) (x ∷ [])) ≡ true → reached_of r a new ≡ nothing_reached
        → HasUnitSlot r a new → ⊥
    unit_by r a true is needed none there = before.unit r a is (sym (more.same.reached r a) ∙ none) (more.fewer.unit r a there)
    unit_by r a false off needed none there = more.unit r a needed none there

pub all_taken : (statements : List StoredStatement) (i : ℕ) (old new : SeenSessions) → length statements ≤ i → TakesSlotsBack (take i statements) old new → TakesSlotsBack statements old new
all_taken statements i old new end taken = subst (λ xs. TakesSlotsBack xs old new) (take_all i statements end) taken

-- ---- slots that were made, and taken back

-- a registration has a slot only where it had one, if that holds of its units
pub units_back : (statements : List StoredStatement) (before mid new : SeenSessions) → MakesSlots statements before mid → TakesSlotsBack statements mid new
    → ((r a : List ℕ) → HasUnitSlot r a new → HasUnitSlot r a before) → (r : List ℕ) → HasUnitsSlot r new → HasUnitsSlot r before
units_back statements before mid new made taken fewer r has = by_test (is_some (lookup (is_same r) before.reached)) refl
  where
    by_test : (b : Bool) → is_some (lookup (is_same r) before.reached) ≡ b → HasUnitsSlot r before
    by_test true had = had
    by_test false none =
        let one = taken.filled r (made.filled r (λ had. absurd (false≢true (sym none ∙ had)))) has in
        unit_kept r one.0 before.reached (fewer r one.0 one.1)
