-- Slots that are made ahead, and taken back where they stay empty.
use Rattle.std.proofs.Common.{◌≡◌, List, [], ◌∷◌, refl, sym, ◌∙◌, ap, inl, inr, Option, Some, None, Bool, true, false, cond}
use Rattle.std.specs.Prelude.{◌⊎◌, is_none, is_some, option_and_then}
use Rattle.std.specs.BTreeMap.{is_at}
use Rattle.std.specs.Cmp.{IsEquivalence, IsTotalOrder}
use Rattle.std.specs.Map.{lookup}
use Rattle.std.specs.Option.{option_map_or}
use Rattle.std.specs.Ordering.{eq_by_cmp}
use Rattle.std.specs.declared.cmp.Ordering.{Ordering}
use Rattle.std.proofs.lemmas.Cmp.{eq_by_cmp_equiv}
use Rattle.lrs_register.specs.Slots.{is_empty_at, index_of, AddsNoSlot, AddsOnly, HasSlot, KeepsOthers, MakesSlots, SameSlots, TakesSlotsBack}

-- ---- one key

alike : {K V : Type 0} (p q : K → Bool) → ((x : K) → p x ≡ q x) → (es : List (K × Option V)) → lookup p es ≡ lookup q es
alike p q same [] = refl
alike p q same (e ∷ es) = rw (same e.0, alike p q same es) refl

-- an equal key has the same index
same_key : {K V : Type 0} (cmp : K → K → Ordering) → IsTotalOrder cmp → (key q : K) (slots : List (K × Option V)) → is_at (cmp key) q ≡ true → lookup (is_at (cmp key)) slots ≡ lookup (is_at (cmp q)) slots
same_key cmp total key q slots at = alike (is_at (cmp key)) (is_at (cmp q)) (λ x. laws.congr key q x at) slots
  where
    laws : IsEquivalence (eq_by_cmp cmp)
    laws = eq_by_cmp_equiv total

empty : {V : Type 0} (o : Option (Option V)) → option_map_or is_none o false ≡ true → option_and_then (λ index. index) o ≡ None
empty None is = refl
empty (Some None) is = refl
empty (Some (Some k)) is = cc is

full : {V : Type 0} (o : Option (Option V)) → option_map_or is_none o false ≡ false → is_some o ≡ true → is_some (option_and_then (λ index. index) o) ≡ true
full None is has = has
full (Some None) is has = cc is
full (Some (Some k)) is has = refl

-- a slot that was made for the key alone
pub only_it : {K V : Type 0} (cmp : K → K → Ordering) (passes : K → Bool) (w : Option (Option V)) (old new : List (K × Option V))
    → ((q : K) → lookup (is_at (cmp q)) new ≡ cond (passes q) w (lookup (is_at (cmp q)) old)) → AddsOnly cmp passes old new
only_it {K} {V} cmp passes w old new is = λ q has. by_test q (passes q) refl (sym (ap (λ o. is_some o) (is q)) ∙ has)
  where
    by_test : (q : K) (b : Bool) → passes q ≡ b → is_some (cond b w (lookup (is_at (cmp q)) old)) ≡ true → HasSlot cmp old q ⊎ (passes q ≡ true)
    by_test q true at has = inr at
    by_test q false at has = inl has

-- a slot that was made for a key which had none
pub slot_made : {K V : Type 0} (cmp : K → K → Ordering) → IsTotalOrder cmp → (key copy : K) (old new : List (K × Option V)) → copy ≡ key → is_some (lookup (is_at (cmp key)) old) ≡ false
    → ((q : K) → lookup (is_at (cmp q)) new ≡ cond (is_at (cmp copy) q) (Some None) (lookup (is_at (cmp q)) old)) → MakesSlots cmp (λ q. is_at (cmp key) q) old new
slot_made {K} {V} cmp total key copy old new same none is = record {
  same = λ q. ap (λ (o : Option (Option V)). option_and_then (λ index. index) o) (at q) ∙ same_at q (is_at (cmp key) q) refl;
  only = only_it cmp (λ q. is_at (cmp key) q) (Some None) old new at;
}
  where
    at : (q : K) → lookup (is_at (cmp q)) new ≡ cond (is_at (cmp key) q) (Some None) (lookup (is_at (cmp q)) old)
    at q = is q ∙ ap (λ (k : K). cond (is_at (cmp k) q) (Some None) (lookup (is_at (cmp q)) old)) same

    no_index : (o : Option (Option V)) → is_some o ≡ false → None ≡ option_and_then (λ index. index) o
    no_index None off = refl
    no_index (Some index) off = cc off

    same_at : (q : K) (b : Bool) → is_at (cmp key) q ≡ b → option_and_then (λ index. index) (cond b (Some None) (lookup (is_at (cmp q)) old)) ≡ index_of cmp old q
    same_at q true there = no_index (lookup (is_at (cmp q)) old) (ap (λ o. is_some o) (sym (same_key cmp total key q old there)) ∙ none)
    same_at q false there = refl

pub only_none : {K V : Type 0} (cmp : K → K → Ordering) (passes : K → Bool) (old new : List (K × Option V)) → new ≡ old → AddsOnly cmp passes old new
only_none cmp passes old new is = λ q has. inl (sym (ap (λ slots. is_some (lookup (is_at (cmp q)) slots)) is) ∙ has)

-- an empty slot that was taken out
pub taken_out : {K V : Type 0} (cmp : K → K → Ordering) → IsTotalOrder cmp → (key : K) (old new : List (K × Option V)) → is_empty_at cmp old key ≡ true
    → ((q : K) → lookup (is_at (cmp q)) new ≡ cond (is_at (cmp key) q) None (lookup (is_at (cmp q)) old)) → TakesSlotsBack cmp (λ q. is_at (cmp key) q) old new
taken_out {K} {V} cmp total key old new none is = record {
  same = λ q. ap (λ (o : Option (Option V)). option_and_then (λ index. index) o) (is q) ∙ same_at q (is_at (cmp key) q) refl;
  filled = λ q at has. filled_at q (is_at (cmp key) q) at (sym (ap (λ o. is_some o) (is q)) ∙ has);
  fewer = λ q has. fewer_at q (is_at (cmp key) q) (sym (ap (λ o. is_some o) (is q)) ∙ has);
  others = λ q off has. ap (λ o. is_some o) (is q) ∙ others_at q (is_at (cmp key) q) off has;
}
  where
    same_at : (q : K) (b : Bool) → is_at (cmp key) q ≡ b → option_and_then (λ index. index) (cond b None (lookup (is_at (cmp q)) old)) ≡ index_of cmp old q
    same_at q true at = sym (ap (λ (o : Option (Option V)). option_and_then (λ index. index) o) (sym (same_key cmp total key q old at)) ∙ empty (lookup (is_at (cmp key)) old) none)
    same_at q false at = refl

    filled_at : (q : K) (b : Bool) → b ≡ true → is_some (cond b None (lookup (is_at (cmp q)) old)) ≡ true → is_some (index_of cmp new q) ≡ true
    filled_at q true at has = cc has
    filled_at q false at has = cc at

    fewer_at : (q : K) (b : Bool) → is_some (cond b None (lookup (is_at (cmp q)) old)) ≡ true → HasSlot cmp old q
    fewer_at q true has = cc has
    fewer_at q false has = has

    others_at : (q : K) (b : Bool) → b ≡ false → HasSlot cmp old q → is_some (cond b None (lookup (is_at (cmp q)) old)) ≡ true
    others_at q true off has = cc off
    others_at q false off has = has

-- there is no empty slot
pub left_in : {K V : Type 0} (cmp : K → K → Ordering) → IsTotalOrder cmp → (key : K) (slots : List (K × Option V)) → is_empty_at cmp slots key ≡ false → TakesSlotsBack cmp (λ q. is_at (cmp key) q) slots slots
left_in cmp total key slots is = record {
  same = λ q. refl;
  filled = λ q at has. full (lookup (is_at (cmp q)) slots) (ap (λ o. option_map_or is_none o false) (sym (same_key cmp total key q slots at)) ∙ is) has;
  fewer = λ q has. has;
  others = λ q off has. has;
}

-- ---- several keys

pub none_made : {K V : Type 0} (cmp : K → K → Ordering) (passes : K → Bool) (slots : List (K × Option V)) → MakesSlots cmp passes slots slots
none_made cmp passes slots = record { same = λ q. refl; only = λ q has. inl has }

pub none_back : {K V : Type 0} (cmp : K → K → Ordering) (passes : K → Bool) (slots : List (K × Option V)) → ((q : K) → passes q ≡ false) → TakesSlotsBack cmp passes slots slots
none_back cmp passes slots none = record { same = λ q. refl; filled = λ q at has. cc (sym (none q) ∙ at); fewer = λ q has. has; others = λ q off has. has }

-- more of them are made
pub more_made : {K V : Type 0} (cmp : K → K → Ordering) (passes all : K → Bool) (old mid new : List (K × Option V)) → AddsOnly cmp all old mid → AddsOnly cmp passes mid new → ((q : K) → passes q ≡ true → all q ≡ true)
    → AddsOnly cmp all old new
more_made {K} {V} cmp passes all old mid new before made among = λ q has. by_case q (made q has)
  where
    by_case : (q : K) → HasSlot cmp mid q ⊎ (passes q ≡ true) → HasSlot cmp old q ⊎ (all q ≡ true)
    by_case q (inl there) = before q there
    by_case q (inr at) = inr (among q at)

-- The empty slots of those that pass were taken back, but for the rest.
pub record TakingBack {K V : Type 0} (cmp : K → K → Ordering) (passes rest : K → Bool) (old new : List (K × Option V)) : Type 0 where
  pub same : SameSlots cmp old new
  pub filled : (q : K) → passes q ≡ true → HasSlot cmp new q → (is_some (index_of cmp new q) ≡ true) ⊎ (rest q ≡ true)
  pub fewer : AddsNoSlot cmp old new
  pub others : KeepsOthers cmp passes old new

pub taking_none : {K V : Type 0} (cmp : K → K → Ordering) (passes : K → Bool) (slots : List (K × Option V)) → TakingBack cmp passes passes slots slots
taking_none cmp passes slots = record { same = λ q. refl; filled = λ q at has. inr at; fewer = λ q has. has; others = λ q off has. has }

pub taking_more : {K V : Type 0} (cmp : K → K → Ordering) (passes rest one next : K → Bool) (old mid new : List (K × Option V)) → TakingBack cmp passes rest old mid → TakesSlotsBack cmp one mid new
    → ((q : K) → one q ≡ true → passes q ≡ true) → ((q : K) → rest q ≡ true → (one q ≡ true) ⊎ (next q ≡ true)) → TakingBack cmp passes next old new
taking_more {K} {V} cmp passes rest one next old mid new before back among split = record {
  same = λ q. back.same q ∙ before.same q;
  filled = λ q at has. by_case q has (before.filled q at (back.fewer q has));
  fewer = λ q has. before.fewer q (back.fewer q has);
  others = λ q off has. back.others q (by_test q (one q) refl off) (before.others q off has);
}
  where
    by_test : (q : K) (b : Bool) → one q ≡ b → passes q ≡ false → one q ≡ false
    by_test q true at off = cc (sym off ∙ among q at)
    by_test q false at off = at

    by_split : (q : K) → HasSlot cmp new q → (one q ≡ true) ⊎ (next q ≡ true) → (is_some (index_of cmp new q) ≡ true) ⊎ (next q ≡ true)
    by_split q has (inl at) = inl (back.filled q at has)
    by_split q has (inr at) = inr at

    by_case : (q : K) → HasSlot cmp new q → (is_some (index_of cmp mid q) ≡ true) ⊎ (rest q ≡ true) → (is_some (index_of cmp new q) ≡ true) ⊎ (next q ≡ true)
    by_case q has (inl is) = inl (ap (λ o. is_some o) (back.same q) ∙ is)
    by_case q has (inr at) = by_split q has (split q at)

pub taking_all : {K V : Type 0} (cmp : K → K → Ordering) (passes rest : K → Bool) (old new : List (K × Option V)) → TakingBack cmp passes rest old new → ((q : K) → rest q ≡ false) → TakesSlotsBack cmp passes old new
taking_all {K} {V} cmp passes rest old new taken none = record { same = taken.same; filled = λ q at has. by_case q (taken.filled q at has); fewer = taken.fewer; others = taken.others }
  where
    by_case : (q : K) → (is_some (index_of cmp new q) ≡ true) ⊎ (rest q ≡ true) → is_some (index_of cmp new q) ≡ true
    by_case q (inl is) = is
    by_case q (inr at) = cc (sym (none q) ∙ at)

-- ---- made, and taken back

filled_has : {K V : Type 0} (cmp : K → K → Ordering) (slots : List (K × Option V)) (q : K) → is_some (index_of cmp slots q) ≡ true → HasSlot cmp slots q
filled_has {K} {V} cmp slots q is = by_slot (lookup (is_at (cmp q)) slots) is
  where
    by_slot : (o : Option (Option V)) → is_some (option_and_then (λ index. index) o) ≡ true → is_some o ≡ true
    by_slot None is = is
    by_slot (Some o) is = refl

-- no slot is left but those before
pub made_and_back : {K V : Type 0} (cmp : K → K → Ordering) (passes : K → Bool) (before mid new : List (K × Option V)) → MakesSlots cmp passes before mid → TakesSlotsBack cmp passes mid new → AddsNoSlot cmp before new
made_and_back {K} {V} cmp passes before mid new made back = λ q has. by_case q has (made.only q (back.fewer q has))
  where
    by_case : (q : K) → HasSlot cmp new q → HasSlot cmp before q ⊎ (passes q ≡ true) → HasSlot cmp before q
    by_case q has (inl there) = there
    by_case q has (inr at) = filled_has cmp before q (sym (ap (λ o. is_some o) (back.same q ∙ made.same q)) ∙ back.filled q at has)
