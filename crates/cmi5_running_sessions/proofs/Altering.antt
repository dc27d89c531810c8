-- Maps of which one item changes, and units in maps of maps.
use Rattle.std.proofs.Common.{◌≡◌, ◌⊎◌, ℕ, ◌<◌, nat_lt, Bool, true, false, cond, if◌then◌else◌, ◌&&◌, List, [], ◌∷◌, length, Option, Some, None, is_some, refl, sym, ap, subst, ◌∙◌, inl, inr, arith, lt-ltb}
use Rattle.std.specs.Map.{lookup}
use Rattle.std.specs.Option.{option_map_or, option_or}
use Rattle.std.specs.Str.{bytes_eq}
use Rattle.std.proofs.lemmas.Bool.{false≢true}
use Rattle.std.proofs.lemmas.Map.Text.{is_eq-slice_cmp}
use Rattle.std.proofs.lemmas.Slice.Eq.{bytes_eq-Decides}
use Rattle.cmi5_running_sessions.specs.Maps.{AddsFilled, AddsNoRegistrations, ChangesAt, ChangesUnits, TextMap, HoldsUnits, IsMade, MakesAt, MakesUnits, StaysFilled, UnitsByRegistration, is_empty_slot, is_same_unit, taken_back, unit_at}
use Rattle.cmi5_running_sessions.specs.Kept.{is_same, nothing_reached, units_of}
use Rattle.cmi5_running_sessions.specs.declared.units.Reached.{Reached}

-- ---- keys

-- keys are compared by their bytes
pub by_bytes : (a b : List ℕ) → is_same a b ≡ bytes_eq a b
by_bytes a b = is_eq-slice_cmp a b

-- two keys that are the same are equal
pub one_key : (a b : List ℕ) → is_same a b ≡ true → a ≡ b
one_key a b same = (bytes_eq-Decides a b).0 (sym (by_bytes a b) ∙ same)

pub same_key : (a b : List ℕ) → a ≡ b → is_same a b ≡ true
same_key a b is = by_bytes a b ∙ (bytes_eq-Decides a b).1 is

-- a unit is compared by both its parts
pub unit_by_bytes : (registration activity r a : List ℕ) → is_same_unit registration activity r a ≡ (bytes_eq registration r && bytes_eq activity a)
unit_by_bytes registration activity r a = ap (λ b. b && is_same activity a) (by_bytes registration r) ∙ ap (λ b. bytes_eq registration r && b) (by_bytes activity a)

pub unit_itself : (registration activity : List ℕ) → is_same_unit registration activity registration activity ≡ true
unit_itself registration activity = ap (λ b. b && is_same activity activity) (same_key registration registration refl) ∙ same_key activity activity refl

-- the entries that are found, or none
abbrev pub listed : {X : Type 0} → Option (TextMap X) → TextMap X
listed o = option_map_or (λ es. es) o []

-- where something is found, there is something
pub some_there : {X : Type 0} (test : List ℕ → Bool) (es : TextMap X) → is_some (lookup test es) ≡ true → 0 < length es
some_there test [] found = absurd (false≢true found)
some_there test (e ∷ es) found = omega arith

-- where there is something, its first key is found
pub first_there : {X : Type 0} (es : TextMap X) → 0 < length es → (a : List ℕ) × (is_some (lookup (is_same a) es) ≡ true)
first_there {X = X} [] some = absurd (false≢true (lt-ltb 0 0 some))
first_there {X = X} (e ∷ es) some = (e.0, ap (λ b. is_some (cond b (Some e.1) (lookup (is_same e.0) es))) (same_key e.0 e.0 refl))

-- ---- one key

pub made_same : {X : Type 0} (nothing : X) (passes : List ℕ → Bool) (old new : TextMap X) → new ≡ old → MakesAt nothing passes old new
made_same nothing passes old new is = λ k. inl (ap (λ es. lookup (is_same k) es) is)

-- a slot is made for a key that had none
pub made_new : {X : Type 0} (nothing : X) (key copy : List ℕ) (inside seen new : TextMap X) → copy ≡ key → inside ≡ seen → is_some (lookup (is_same key) inside) ≡ false
    → ((k : List ℕ) → lookup (is_same k) new ≡ cond (is_same copy k) (Some nothing) (lookup (is_same k) inside)) → MakesAt nothing (λ k. is_same key k) seen new
made_new {X} nothing key copy inside seen new is same none at =
    subst (λ (es : TextMap X). MakesAt nothing (λ k. is_same key k) es new) same
    (λ k. by_test k (is_same key k) refl (at k ∙ ap (λ (q : List ℕ). cond (is_same q k) (Some nothing) (lookup (is_same k) inside)) is))
  where
    fills : (o : Option X) → is_some o ≡ false → Some nothing ≡ option_or o (Some nothing)
    fills None off = refl
    fills (Some x) off = absurd (false≢true (sym off))

    by_test : (k : List ℕ) (b : Bool) → is_same key k ≡ b → lookup (is_same k) new ≡ cond (is_same key k) (Some nothing) (lookup (is_same k) inside)
        → IsMade nothing (is_same key k) (lookup (is_same k) inside) (lookup (is_same k) new)
    by_test k true e is = inr (
      e,
      is ∙ ap (λ b. cond b (Some nothing) (lookup (is_same k) inside)) e
          ∙ (fills (lookup (is_same key) inside) none ∙ ap (λ (q : List ℕ). option_or (lookup (is_same q) inside) (Some nothing)) (one_key key k e)),
    )
    by_test k false e is = inl (is ∙ ap (λ b. cond b (Some nothing) (lookup (is_same k) inside)) e)

-- what was put under a key is found there
pub put_there : {X : Type 0} (key copy : List ℕ) (x : X) (old new : TextMap X) → copy ≡ key
    → ((k : List ℕ) → lookup (is_same k) new ≡ cond (is_same copy k) (Some x) (lookup (is_same k) old)) → is_some (lookup (is_same key) new) ≡ true
put_there key copy x old new is at = ap is_some (at key ∙ ap (λ b. cond b (Some x) (lookup (is_same key) old)) (same_key copy key is))

-- something else stands under the key now, or nothing
pub changed_at : {X : Type 0} (key : List ℕ) (change : Option X → Option X) (w : Option X) (inside seen new : TextMap X) → inside ≡ seen
    → ((k : List ℕ) → lookup (is_same k) new ≡ cond (is_same key k) w (lookup (is_same k) inside)) → w ≡ change (lookup (is_same key) inside) → ChangesAt (λ k. is_same key k) change seen new
changed_at {X} key change w inside seen new same at is = subst (λ (es : TextMap X). ChangesAt (λ k. is_same key k) change es new) same (λ k. at k ∙ by_test k (is_same key k) refl)
  where
    by_test : (k : List ℕ) (b : Bool) → is_same key k ≡ b → cond b w (lookup (is_same k) inside) ≡ (if b then change (lookup (is_same k) inside) else lookup (is_same k) inside)
    by_test k true e = is ∙ ap (λ (q : List ℕ). change (lookup (is_same q) inside)) (one_key key k e)
    by_test k false e = refl

-- nothing changes where the change would leave what stands there
pub unchanged_at : {X : Type 0} (key : List ℕ) (change : Option X → Option X) (es : TextMap X) → change (lookup (is_same key) es) ≡ lookup (is_same key) es → ChangesAt (λ k. is_same key k) change es es
unchanged_at key change es is = λ k. by_test k (is_same key k) refl
  where
    by_test : (k : List ℕ) (b : Bool) → is_same key k ≡ b → lookup (is_same k) es ≡ (if b then change (lookup (is_same k) es) else lookup (is_same k) es)
    by_test k true e = subst (λ (q : List ℕ). lookup (is_same q) es ≡ change (lookup (is_same q) es)) (one_key key k e) (sym is)
    by_test k false e = refl

-- ---- a slot that is taken back

pub emptied : {X : Type 0} (is_nothing : X → Bool) (slot : Option X) → is_empty_slot is_nothing slot ≡ true → None ≡ taken_back is_nothing slot
emptied is_nothing None empty = refl
emptied is_nothing (Some x) empty = sym (ap (λ b. if b then None else Some x) empty)

pub left : {X : Type 0} (is_nothing : X → Bool) (slot : Option X) → is_empty_slot is_nothing slot ≡ false → taken_back is_nothing slot ≡ slot
left is_nothing None full = refl
left is_nothing (Some x) full = ap (λ b. if b then None else Some x) full

-- a slot that is empty is there
pub empty_there : {X : Type 0} (is_nothing : X → Bool) (slot : Option X) → is_empty_slot is_nothing slot ≡ true → is_some slot ≡ true
empty_there is_nothing None empty = absurd (false≢true empty)
empty_there is_nothing (Some x) empty = refl

-- the only entry is taken out
pub only_one : {X : Type 0} (key : List ℕ) (es : TextMap X) → nat_lt 1 (length es) ≡ false → is_some (lookup (is_same key) es) ≡ true → ChangesAt (λ k. is_same key k) (λ (slot : Option X). None) es []
only_one key [] few there = absurd (false≢true there)
only_one {X} key (e ∷ []) few there = λ k. by_test k (is_same key k) refl
  where
    found : (b : Bool) → is_same key e.0 ≡ b → is_some (cond b (Some e.1) None) ≡ true → key ≡ e.0
    found true is some = one_key key e.0 is
    found false is some = absurd (false≢true some)

    other : (k : List ℕ) (b : Bool) → is_same k e.0 ≡ b → is_same key k ≡ false → None ≡ cond b (Some e.1) None
    other k true is off = absurd (false≢true (sym off ∙ same_key key k (found (is_same key e.0) refl there ∙ sym (one_key k e.0 is))))
    other k false is off = refl

    by_test : (k : List ℕ) (b : Bool) → is_same key k ≡ b → None ≡ (if b then None else lookup (is_same k) (e ∷ []))
    by_test k true is = refl
    by_test k false off = other k (is_same k e.0) refl off
only_one key (e ∷ f ∷ es) few there = absurd (false≢true (sym few ∙ lt-ltb 1 (length (e ∷ f ∷ es)) (omega arith)))

-- ---- keys that pass alike

pub made_alike : {X : Type 0} (nothing : X) (p q : List ℕ → Bool) (old new : TextMap X) → ((k : List ℕ) → p k ≡ q k) → MakesAt nothing p old new → MakesAt nothing q old new
made_alike nothing p q old new alike made = λ k. subst (λ b. IsMade nothing b (lookup (is_same k) old) (lookup (is_same k) new)) (alike k) (made k)

pub changed_alike : {X : Type 0} (p q : List ℕ → Bool) (change : Option X → Option X) (old new : TextMap X) → ((k : List ℕ) → p k ≡ q k) → ChangesAt p change old new → ChangesAt q change old new
changed_alike p q change old new alike changed = λ k. changed k ∙ ap (λ b. if b then change (lookup (is_same k) old) else lookup (is_same k) old) (alike k)

pub unchanged : {X : Type 0} (p : List ℕ → Bool) (change : Option X → Option X) (es : TextMap X) → ((k : List ℕ) → p k ≡ false) → ChangesAt p change es es
unchanged p change es none = λ k. sym (ap (λ b. if b then change (lookup (is_same k) es) else lookup (is_same k) es) (none k))

pub units_made_alike : (p q : List ℕ → List ℕ → Bool) (old new : UnitsByRegistration) → ((r a : List ℕ) → p r a ≡ q r a) → MakesUnits p old new → MakesUnits q old new
units_made_alike p q old new alike made = λ r a. subst (λ b. IsMade nothing_reached b (unit_at r a old) (unit_at r a new)) (alike r a) (made r a)

pub units_changed_alike : (p q : List ℕ → List ℕ → Bool) (change : Option Reached → Option Reached) (old new : UnitsByRegistration) → ((r a : List ℕ) → p r a ≡ q r a)
    → ChangesUnits p change old new → ChangesUnits q change old new
units_changed_alike p q change old new alike changed = λ r a. changed r a ∙ ap (λ b. if b then change (unit_at r a old) else unit_at r a old) (alike r a)

pub units_unchanged : (p : List ℕ → List ℕ → Bool) (change : Option Reached → Option Reached) (es : UnitsByRegistration) → ((r a : List ℕ) → p r a ≡ false) → ChangesUnits p change es es
units_unchanged p change es none = λ r a. sym (ap (λ b. if b then change (unit_at r a es) else unit_at r a es) (none r a))

-- ---- units

-- the registration of a unit that has a slot is kept
pub unit_kept : (r a : List ℕ) (es : UnitsByRegistration) → is_some (unit_at r a es) ≡ true → is_some (lookup (is_same r) es) ≡ true
unit_kept r a es there = by_found (lookup (is_same r) es) there
  where
    by_found : (o : Option (TextMap Reached)) → is_some (lookup (is_same a) (listed o)) ≡ true → is_some o ≡ true
    by_found None there = there
    by_found (Some us) there = refl

-- an equal registration has the same units
same_units : (registration r : List ℕ) (es : UnitsByRegistration) → is_same registration r ≡ true → units_of registration es ≡ units_of r es
same_units registration r es same = ap (λ (q : List ℕ). units_of q es) (one_key registration r same)

-- the units of a registration become others, or none
module _ (registration activity : List ℕ) (us vs : TextMap Reached) (w : Option (TextMap Reached)) (inside seen new : UnitsByRegistration) (same : inside ≡ seen) (were : us ≡ units_of registration inside) (are : listed w ≡ vs)
    (at : (k : List ℕ) → lookup (is_same k) new ≡ cond (is_same registration k) w (lookup (is_same k) inside)) where
  pub here : (r a : List ℕ) → is_same registration r ≡ true → unit_at r a new ≡ lookup (is_same a) vs
  here r a e = ap (λ (o : Option (TextMap Reached)). lookup (is_same a) (listed o)) (at r ∙ ap (λ b. cond b w (lookup (is_same r) inside)) e) ∙ ap (λ (es : TextMap Reached). lookup (is_same a) es) are

  before : (r a : List ℕ) → is_same registration r ≡ true → lookup (is_same a) us ≡ unit_at r a inside
  before r a e = ap (λ (es : TextMap Reached). lookup (is_same a) es) (were ∙ same_units registration r inside e)

  elsewhere : (r a : List ℕ) → is_same registration r ≡ false → unit_at r a new ≡ unit_at r a inside
  elsewhere r a e = ap (λ (o : Option (TextMap Reached)). lookup (is_same a) (listed o)) (at r ∙ ap (λ b. cond b w (lookup (is_same r) inside)) e)

  pub unit_changed : (change : Option Reached → Option Reached) → ChangesAt (λ k. is_same activity k) change us vs → ChangesUnits (is_same_unit registration activity) change seen new
  unit_changed change changes = subst (λ (es : UnitsByRegistration). ChangesUnits (is_same_unit registration activity) change es new) same (λ r a. by_test r a (is_same registration r) refl)
    where
      by_test : (r a : List ℕ) (b : Bool) → is_same registration r ≡ b → unit_at r a new ≡ (if b && is_same activity a then change (unit_at r a inside) else unit_at r a inside)
      by_test r a true e = here r a e ∙ (changes a ∙ ap (λ (o : Option Reached). if is_same activity a then change o else o) (before r a e))
      by_test r a false e = elsewhere r a e

  pub unit_made : MakesAt nothing_reached (λ k. is_same activity k) us vs → MakesUnits (is_same_unit registration activity) seen new
  unit_made makes = subst (λ (es : UnitsByRegistration). MakesUnits (is_same_unit registration activity) es new) same (λ r a. by_test r a (is_same registration r) refl)
    where
      by_test : (r a : List ℕ) (b : Bool) → is_same registration r ≡ b → IsMade nothing_reached (b && is_same activity a) (unit_at r a inside) (unit_at r a new)
      by_test r a true e =
          subst (λ (o : Option Reached). IsMade nothing_reached (is_same activity a) (unit_at r a inside) o) (sym (here r a e))
          (subst (λ (o : Option Reached). IsMade nothing_reached (is_same activity a) o (lookup (is_same a) vs)) (before r a e) (makes a))
      by_test r a false e = inl (elsewhere r a e)

  -- whether a registration is kept
  kept_here : (r : List ℕ) → is_same registration r ≡ true → is_some (lookup (is_same r) new) ≡ is_some w
  kept_here r e = ap is_some (at r ∙ ap (λ b. cond b w (lookup (is_same r) inside)) e)

  kept_elsewhere : (r : List ℕ) → is_same registration r ≡ false → is_some (lookup (is_same r) new) ≡ is_some (lookup (is_same r) inside)
  kept_elsewhere r e = ap is_some (at r ∙ ap (λ b. cond b w (lookup (is_same r) inside)) e)

  -- the registration was kept, so none is added
  pub kept_before : is_some (lookup (is_same registration) inside) ≡ true → AddsNoRegistrations seen new
  kept_before there = subst (λ (es : UnitsByRegistration). AddsNoRegistrations es new) same (λ r has. by_test r (is_same registration r) refl has)
    where
      by_test : (r : List ℕ) (b : Bool) → is_same registration r ≡ b → is_some (lookup (is_same r) new) ≡ true → is_some (lookup (is_same r) inside) ≡ true
      by_test r true e has = subst (λ (q : List ℕ). is_some (lookup (is_same q) inside) ≡ true) (one_key registration r e) there
      by_test r false e has = sym (kept_elsewhere r e) ∙ has

  -- the registration is added with a unit
  pub added_filled : (a : List ℕ) → is_some (lookup (is_same a) vs) ≡ true → AddsFilled seen new
  added_filled a some = subst (λ (es : UnitsByRegistration). AddsFilled es new) same (λ r has. by_test r (is_same registration r) refl has)
    where
      by_test : (r : List ℕ) (b : Bool) → is_same registration r ≡ b → is_some (lookup (is_same r) new) ≡ true
          → (is_some (lookup (is_same r) inside) ≡ true) ⊎ ((q : List ℕ) × (is_some (unit_at r q new) ≡ true))
      by_test r true e has = inr (a, ap is_some (here r a e) ∙ some)
      by_test r false e has = inl (sym (kept_elsewhere r e) ∙ has)

  -- the registration goes, or keeps a unit
  pub stays_filled : (is_some w ≡ true → (a : List ℕ) × (is_some (lookup (is_same a) vs) ≡ true)) → StaysFilled seen new
  stays_filled some = subst (λ (es : UnitsByRegistration). StaysFilled es new) same (λ r holds has. by_test r (is_same registration r) refl holds has)
    where
      by_test : (r : List ℕ) (b : Bool) → is_same registration r ≡ b → HoldsUnits r inside → is_some (lookup (is_same r) new) ≡ true → (a : List ℕ) × (is_some (unit_at r a new) ≡ true)
      by_test r true e holds has =
          let one = some (sym (kept_here r e) ∙ has) in
          (one.0, ap is_some (here r one.0 e) ∙ one.1)
      by_test r false e holds has =
          let one = holds (sym (kept_elsewhere r e) ∙ has) in
          (one.0, ap is_some (elsewhere r one.0 e) ∙ one.1)
