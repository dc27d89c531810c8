-- What is counted of a unit, as of one statement more, and as of one that is voided.
use Rattle.std.proofs.Common.{◌≡◌, ℕ, ◌+◌, ◌-◌, ◌<◌, ◌^◌, nat_lt, Bool, true, false, cond, if◌then◌else◌, ◌&&◌, ◌||◌, List, [], ◌∷◌, ◌++◌, length, Option, Some, None, is_some, refl, sym, ap, subst, ◌∙◌, arith, lt-ltb}
use Rattle.std.specs.Prelude.{option_map}
use Rattle.std.specs.List.{count_by, list_any}
use Rattle.std.specs.Str.{bytes_eq}
use Rattle.std.specs.Option.{option_map_or}
use Rattle.std.proofs.Math.Bool.{and-false, and-true}
use Rattle.std.proofs.lemmas.Bool.{false≢true}
use Rattle.std.proofs.lemmas.List.Sums.{sum_by-cons}
use Rattle.cmi5_course.specs.declared.launch.Launch.{Launch}
use Rattle.cmi5_session.specs.Cmi5LaunchNames.{completed, passed}
use Rattle.cmi5_running_sessions.specs.Maps.{ChangesUnits, UnitsByRegistration, is_empty_slot, is_nothing_reached, is_same_unit, kept_in, reached_behind, reached_without, taken_back, unit_at}
use Rattle.cmi5_running_sessions.specs.Kept.{SeenSessions, counts_still_for, is_same, nothing_reached, reached_in, reached_of}
use Rattle.cmi5_running_sessions.specs.Room.{needs_unit}
use Rattle.cmi5_running_sessions.specs.declared.told.UnitTold.{UnitTold}
use Rattle.cmi5_running_sessions.specs.declared.units.Reached.{Reached}
use Rattle.cmi5_running_sessions.proofs.Altering.{emptied, one_key, unit_by_bytes}
use Rattle.cmi5_running_sessions.proofs.Making.{counts_of}
use Rattle.cmi5_session.proofs.Counts.{count_less, count_none, count_one, count_same}
use Rattle.cmi5_session.specs.Counting.{counts, one_less}
use Rattle.cmi5_session.specs.Marked.{MarkedStatement, mark, marked, marked_by}
use Rattle.cmi5_session.specs.Own.{says}
use Rattle.cmi5_session.specs.Views.{counts_still, has_counting}
use Rattle.lrs_json.specs.Json.{Json}
use Rattle.lrs_json.specs.View.{view}
use Rattle.cmi5_session.specs.XapiStatementStatements.{is_that_id, is_voided}
use Rattle.cmi5_session.specs.XapiStatementStatement.{activity_of, registration_of}
use Rattle.cmi5_session.specs.XapiStatementStored.{StoredStatement}

-- ---- truth values

-- the unit is that one, and the statement says so
unit_first : (s x y : Bool) → ((s && x) && y) ≡ ((x && y) && s)
unit_first true true true = refl
unit_first true true false = refl
unit_first true false y = refl
unit_first false true true = refl
unit_first false true false = refl
unit_first false false y = refl

of_unit : (r a verb : List ℕ) (j : Json) → counts r a verb j ≡ ((is_that_id r (registration_of j) && is_that_id a (activity_of j)) && says verb j)
of_unit r a verb j = unit_first (says verb j) (is_that_id r (registration_of j)) (is_that_id a (activity_of j))

-- where a slot is needed, each verb is told of that unit; where none is, neither is
needed_first : (x y c p : Bool) → (x && y && (c || p)) ≡ true → ((x && y) && c) ≡ c
needed_first true true c p is = refl
needed_first true false c p is = absurd (false≢true is)
needed_first false y c p is = absurd (false≢true is)

needed_second : (x y c p : Bool) → (x && y && (c || p)) ≡ true → ((x && y) && p) ≡ p
needed_second true true c p is = refl
needed_second true false c p is = absurd (false≢true is)
needed_second false y c p is = absurd (false≢true is)

other_first : (x y c p : Bool) → (x && y && (c || p)) ≡ false → ((x && y) && c) ≡ false
other_first true true true p is = absurd (false≢true (sym is))
other_first true true false p is = refl
other_first true false c p is = refl
other_first false true c p is = refl
other_first false false c p is = refl

other_second : (x y c p : Bool) → (x && y && (c || p)) ≡ false → ((x && y) && p) ≡ false
other_second true true true p is = absurd (false≢true (sym is))
other_second true true false true is = absurd (false≢true (sym is))
other_second true true false false is = refl
other_second true false c p is = refl
other_second false true c p is = refl
other_second false false c p is = refl

module _ (r a : List ℕ) (s : StoredStatement) where
  -- what is said of the unit, as the slot that it needs tells it
  told_completed : needs_unit r a s ≡ true → counts r a completed (view s.received) ≡ says completed (view s.received)
  told_completed is = of_unit r a completed (view s.received)
      ∙ needed_first (is_that_id r (registration_of (view s.received))) (is_that_id a (activity_of (view s.received))) (says completed (view s.received)) (says passed (view s.received)) is

  told_passed : needs_unit r a s ≡ true → counts r a passed (view s.received) ≡ says passed (view s.received)
  told_passed is = of_unit r a passed (view s.received)
      ∙ needed_second (is_that_id r (registration_of (view s.received))) (is_that_id a (activity_of (view s.received))) (says completed (view s.received)) (says passed (view s.received)) is

  other_completed : needs_unit r a s ≡ false → counts r a completed (view s.received) ≡ false
  other_completed off = of_unit r a completed (view s.received)
      ∙ other_first (is_that_id r (registration_of (view s.received))) (is_that_id a (activity_of (view s.received))) (says completed (view s.received)) (says passed (view s.received)) off

  other_passed : needs_unit r a s ≡ false → counts r a passed (view s.received) ≡ false
  other_passed off = of_unit r a passed (view s.received)
      ∙ other_second (is_that_id r (registration_of (view s.received))) (is_that_id a (activity_of (view s.received))) (says completed (view s.received)) (says passed (view s.received)) off

-- ---- which unit is told

-- the unit that a statement tells, and that it tells none
pub of_told : (told : Option UnitTold) (needs : List ℕ → List ℕ → Bool) (unit : UnitTold) → told ≡ Some unit
    → ((r a : List ℕ) → needs r a ≡ option_map_or (λ u. bytes_eq u.registration r && bytes_eq u.activity.now a) told false)
    → (r a : List ℕ) → is_same_unit unit.registration unit.activity.now r a ≡ needs r a
of_told told needs unit is named r a =
    unit_by_bytes unit.registration unit.activity.now r a
    ∙ (sym (ap (λ (o : Option UnitTold). option_map_or (λ u. bytes_eq u.registration r && bytes_eq u.activity.now a) o false) is) ∙ sym (named r a))

pub of_untold : (told : Option UnitTold) (needs : List ℕ → List ℕ → Bool) → told ≡ None
    → ((r a : List ℕ) → needs r a ≡ option_map_or (λ u. bytes_eq u.registration r && bytes_eq u.activity.now a) told false) → (r a : List ℕ) → needs r a ≡ false
of_untold told needs is named r a = named r a ∙ ap (λ (o : Option UnitTold). option_map_or (λ u. bytes_eq u.registration r && bytes_eq u.activity.now a) o false) is

-- a slot of the unit is one of each that passes
pub unit_there : (registration activity : List ℕ) (needs : List ℕ → List ℕ → Bool) (reached : UnitsByRegistration) → ((r a : List ℕ) → is_same_unit registration activity r a ≡ needs r a)
    → is_some (unit_at registration activity reached) ≡ true → (r a : List ℕ) → needs r a ≡ true → is_some (unit_at r a reached) ≡ true
unit_there registration activity needs reached same there r a needed = by_parts (is_same registration r) (is_same activity a) refl refl (same r a ∙ needed)
  where
    by_parts : (b c : Bool) → is_same registration r ≡ b → is_same activity a ≡ c → (is_same registration r && is_same activity a) ≡ true → is_some (unit_at r a reached) ≡ true
    by_parts true true e f is =
        subst (λ (q : List ℕ). is_some (unit_at q a reached) ≡ true) (one_key registration r e)
        (subst (λ (q : List ℕ). is_some (unit_at registration q reached) ≡ true) (one_key activity a f) there)
    by_parts true false e f is = absurd (false≢true (sym (ap (λ b. b && is_same activity a) e ∙ f) ∙ is))
    by_parts false c e f is = absurd (false≢true (sym (ap (λ b. b && is_same activity a) e) ∙ is))

-- the statement's unit is told where it says something that is counted
pub unit_counted : (x y t : Bool) → t ≡ true → (x && y && t) ≡ (x && y)
unit_counted true true t is = is
unit_counted true false t is = refl
unit_counted false y t is = refl

pub unit_uncounted : (x y t : Bool) → t ≡ false → (x && y && t) ≡ false
unit_uncounted true true t off = off
unit_uncounted true false t off = refl
unit_uncounted false y t off = refl

-- a slot with nothing in it is taken out
pub units_emptied : (registration activity : List ℕ) (old new : UnitsByRegistration) → is_empty_slot is_nothing_reached (unit_at registration activity old) ≡ true
    → ChangesUnits (is_same_unit registration activity) (λ (slot : Option Reached). None) old new → ChangesUnits (is_same_unit registration activity) (taken_back is_nothing_reached) old new
units_emptied registration activity old new empty changed = λ r a. changed r a ∙ by_parts r a (is_same registration r) (is_same activity a) refl refl
  where
    by_parts : (r a : List ℕ) (b c : Bool) → is_same registration r ≡ b → is_same activity a ≡ c
        → (if b && c then None else unit_at r a old) ≡ (if b && c then taken_back is_nothing_reached (unit_at r a old) else unit_at r a old)
    by_parts r a true true e f =
        emptied is_nothing_reached (unit_at registration activity old) empty
        ∙ ap (λ (o : Option Reached). taken_back is_nothing_reached o) (ap (λ (q : List ℕ). unit_at q activity old) (one_key registration r e) ∙ ap (λ (q : List ℕ). unit_at r q old) (one_key activity a f))
    by_parts r a true false e f = refl
    by_parts r a false c e f = refl

-- nothing changes where the change would leave what stands there
pub units_left : (registration activity : List ℕ) (change : Option Reached → Option Reached) (es : UnitsByRegistration) → change (unit_at registration activity es) ≡ unit_at registration activity es
    → ChangesUnits (is_same_unit registration activity) change es es
units_left registration activity change es is = λ r a. by_parts r a (is_same registration r) (is_same activity a) refl refl
  where
    by_parts : (r a : List ℕ) (b c : Bool) → is_same registration r ≡ b → is_same activity a ≡ c → unit_at r a es ≡ (if b && c then change (unit_at r a es) else unit_at r a es)
    by_parts r a true true e f =
        subst (λ (q : List ℕ). unit_at q a es ≡ change (unit_at q a es)) (one_key registration r e)
        (subst (λ (q : List ℕ). unit_at registration q es ≡ change (unit_at registration q es)) (one_key activity a f) (sym is))
    by_parts r a true false e f = refl
    by_parts r a false c e f = refl

-- where there is no slot, nothing can be filled
pub none_filled : (change : Reached → Reached) (slot : Option Reached) → is_some slot ≡ false → option_map change slot ≡ slot
none_filled change None off = refl
none_filled change (Some r) off = absurd (false≢true (sym off))

-- ---- counts

pub same_counts : (n m k l : ℕ) → n ≡ m → k ≡ l → counts_of n k ≡ counts_of m l
same_counts n m k l is at = ap (λ x. counts_of x k) is ∙ ap (λ x. counts_of m x) at

-- ---- what was reached

kept_counted : (change : Reached → Reached) (o : Option Reached) → is_some o ≡ true → kept_in nothing_reached (option_map change o) ≡ change (kept_in nothing_reached o)
kept_counted change None there = absurd (false≢true there)
kept_counted change (Some r) there = refl

none_less : (b c : Bool) → nothing_reached ≡ counts_of (one_less 0 b) (one_less 0 c)
none_less true true = refl
none_less true false = refl
none_less false true = refl
none_less false false = refl

-- without a slot nothing can be taken back
kept_discounted : (j : Json) (o : Option Reached) → kept_in nothing_reached (option_map (reached_without j) o) ≡ reached_without j (kept_in nothing_reached o)
kept_discounted j None = none_less (says completed j) (says passed j)
kept_discounted j (Some r) = refl

-- a voided statement counts for nothing
pub voided_more : (s : StoredStatement) (old new : SeenSessions) → new.reached ≡ old.reached → (those : List MarkedStatement)
    → ((r a : List ℕ) → reached_of r a old ≡ reached_in r a those) → (r a : List ℕ) → reached_of r a new ≡ reached_in r a (those ++ mark s true ∷ [])
voided_more s old new same those stands r a =
    ap (λ (reached : UnitsByRegistration). kept_in nothing_reached (unit_at r a reached)) same
    ∙ (stands r a
    ∙ sym (same_counts _ _ _ _
    (count_none (counts_still_for r a completed) those (mark s true) (and-false (counts r a completed (view s.received))))
    (count_none (counts_still_for r a passed) those (mark s true) (and-false (counts r a passed (view s.received))))))

-- one that isn't voided counts
pub counted_more : (s : StoredStatement) (old new : SeenSessions) → ChangesUnits (λ r a. needs_unit r a s) (option_map (reached_behind (view s.received))) old.reached new.reached
    → ((r a : List ℕ) → needs_unit r a s ≡ true → is_some (unit_at r a old.reached) ≡ true) → (those : List MarkedStatement) → length those + 1 < 2 ^ 64
    → ((r a : List ℕ) → reached_of r a old ≡ reached_in r a those) → (r a : List ℕ) → reached_of r a new ≡ reached_in r a (those ++ mark s false ∷ [])
counted_more s old new changed there those small stands r a = by_test (needs_unit r a s) refl (changed r a)
  where
    by_test : (b : Bool) → needs_unit r a s ≡ b
        → unit_at r a new.reached ≡ (if needs_unit r a s then option_map (reached_behind (view s.received)) (unit_at r a old.reached) else unit_at r a old.reached)
        → reached_of r a new ≡ reached_in r a (those ++ mark s false ∷ [])
    by_test true needed is =
        ap (λ (o : Option Reached). kept_in nothing_reached o) (is ∙ ap (λ b. if b then option_map (reached_behind (view s.received)) (unit_at r a old.reached) else unit_at r a old.reached) needed)
        ∙ (kept_counted (reached_behind (view s.received)) (unit_at r a old.reached) (there r a needed)
        ∙ (ap (λ (c : Reached). reached_behind (view s.received) c) (stands r a)
        ∙ same_counts _ _ _ _
        (count_one (counts_still_for r a completed) those (mark s false) (says completed (view s.received)) (and-true (counts r a completed (view s.received)) ∙ told_completed r a s needed) small)
        (count_one (counts_still_for r a passed) those (mark s false) (says passed (view s.received)) (and-true (counts r a passed (view s.received)) ∙ told_passed r a s needed) small)))
    by_test false other is =
        ap (λ (o : Option Reached). kept_in nothing_reached o) (is ∙ ap (λ b. if b then option_map (reached_behind (view s.received)) (unit_at r a old.reached) else unit_at r a old.reached) other)
        ∙ (stands r a
        ∙ sym (same_counts _ _ _ _
        (count_none (counts_still_for r a completed) those (mark s false) (and-true (counts r a completed (view s.received)) ∙ other_completed r a s other))
        (count_none (counts_still_for r a passed) those (mark s false) (and-true (counts r a passed (view s.received)) ∙ other_passed r a s other))))

-- one that is voided now counts no longer
pub voided_now : (s : StoredStatement) (old new : SeenSessions) → ChangesUnits (λ r a. needs_unit r a s) (option_map (reached_without (view s.received))) old.reached new.reached
    → (before behind : List MarkedStatement) → ((r a : List ℕ) → reached_of r a old ≡ reached_in r a (before ++ mark s false ∷ behind))
    → (r a : List ℕ) → reached_of r a new ≡ reached_in r a (before ++ mark s true ∷ behind)
voided_now s old new changed before behind stands r a = by_test (needs_unit r a s) refl (changed r a)
  where
    by_test : (b : Bool) → needs_unit r a s ≡ b
        → unit_at r a new.reached ≡ (if needs_unit r a s then option_map (reached_without (view s.received)) (unit_at r a old.reached) else unit_at r a old.reached)
        → reached_of r a new ≡ reached_in r a (before ++ mark s true ∷ behind)
    by_test true needed is =
        ap (λ (o : Option Reached). kept_in nothing_reached o) (is ∙ ap (λ b. if b then option_map (reached_without (view s.received)) (unit_at r a old.reached) else unit_at r a old.reached) needed)
        ∙ (kept_discounted (view s.received) (unit_at r a old.reached)
        ∙ (ap (λ (c : Reached). reached_without (view s.received) c) (stands r a)
        ∙ same_counts _ _ _ _
        (count_less (counts_still_for r a completed) before behind (mark s false) (mark s true) (says completed (view s.received))
        (and-true (counts r a completed (view s.received)) ∙ told_completed r a s needed) (and-false (counts r a completed (view s.received))))
        (count_less (counts_still_for r a passed) before behind (mark s false) (mark s true) (says passed (view s.received))
        (and-true (counts r a passed (view s.received)) ∙ told_passed r a s needed) (and-false (counts r a passed (view s.received))))))
    by_test false other is =
        ap (λ (o : Option Reached). kept_in nothing_reached o) (is ∙ ap (λ b. if b then option_map (reached_without (view s.received)) (unit_at r a old.reached) else unit_at r a old.reached) other)
        ∙ (stands r a
        ∙ same_counts _ _ _ _
        (count_same (counts_still_for r a completed) before behind (mark s false) (mark s true)
        (and-true (counts r a completed (view s.received)) ∙ other_completed r a s other) (and-false (counts r a completed (view s.received))))
        (count_same (counts_still_for r a passed) before behind (mark s false) (mark s true)
        (and-true (counts r a passed (view s.received)) ∙ other_passed r a s other) (and-false (counts r a passed (view s.received)))))

-- ---- whether any counts

some_counted : (b : Bool) (n : ℕ) → nat_lt 0 (cond b 1 0 + n) ≡ b || nat_lt 0 n
some_counted true n = lt-ltb 0 (1 + n) (omega arith)
some_counted false n =
    let same : 0 + n ≡ n = omega arith in
    ap (λ k. nat_lt 0 k) same

counting_from : (launch : Launch) (verb : List ℕ) (those xs : List StoredStatement)
    → nat_lt 0 (count_by (counts_still_for launch.registration launch.activity verb) (marked_by those xs)) ≡ list_any (counts_still launch verb those) xs
counting_from launch verb those [] = refl
counting_from launch verb those (x ∷ xs) =
    let p = counts_still_for launch.registration launch.activity verb in
    ap (λ n. nat_lt 0 n) (sum_by-cons (λ m. cond (p m) 1 0) (mark x (is_voided those x)) (marked_by those xs))
    ∙ (some_counted (p (mark x (is_voided those x))) (count_by p (marked_by those xs)) ∙ ap (λ b. p (mark x (is_voided those x)) || b) (counting_from launch verb those xs))

-- the count tells whether one counts that none of them voids
pub counting : (launch : Launch) (verb : List ℕ) (statements : List StoredStatement)
    → nat_lt 0 (count_by (counts_still_for launch.registration launch.activity verb) (marked statements)) ≡ has_counting launch verb statements
counting launch verb statements = counting_from launch verb statements statements
