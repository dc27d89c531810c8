-- Leaps from list to list, and what they leave out.
use Rattle.std.proofs.Common.{◌≡◌, ◌==◌, ◌<◌, ◌≤◌, ◌+◌, ◌⊎◌, ◌&&◌, ◌||◌, ℕ, List, [], ◌∷◌, ◌++◌, length, nat_lt, refl, sym, ◌∙◌, ap, subst, inl, inr, arith, Option, Some, None, IfSome, Bool, true, false, Bor, if◌then◌else◌}
use Rattle.std.specs.List.{AllByRecursion}
use Rattle.std.proofs.lemmas.Bool.{and_from, and_left, and_parts, and_right, cases_lt, cases_order, eq-eqb, eqb-true, le-ltb, lt-ltb, ltb-true, or_right}
use Rattle.std.proofs.lemmas.List.Folds.{list_any-append}
use Rattle.std.proofs.lemmas.Option.{same_Some}
use Rattle.xapi_index.specs.XapiPostingsAscending.{is_in}
use Rattle.xapi_index.specs.XapiPostingsNearest.{IsLeastFrom, is_before}
use Rattle.xapi_index.specs.XapiPostingsAscendingProofs.{ascending-append}
use Rattle.xapi_search.specs.Narrowing.{is_in_each}
use Rattle.xapi_search.specs.Sought.{AreDirect, is_direct_at, is_seen, passes}
use Rattle.xapi_search.specs.declared.sought.Seen.{Seen}
use Rattle.xapi_search.specs.declared.sought.Seen.TheVariants.{Nothing, All, These}
use Rattle.xapi_search.specs.declared.sought.Sought.{Sought}
use Rattle.xapi_search.proofs.Narrowed.{Lists, list_at, not_in_each}

-- ---- what is seen

pub nothing_seen : (seen : Seen) (from : ℕ) → seen ≡ Nothing → IsLeastFrom (is_seen seen) from None
nothing_seen seen from is = subst (λ (s : Seen). IsLeastFrom (is_seen s) from None) (sym is) (record {
  found = λ k at. cc at;
  no_other = λ k le before. refl;
})

pub all_seen : (seen : Seen) (from : ℕ) → seen ≡ All → IsLeastFrom (is_seen seen) from (Some from)
all_seen seen from is = subst (λ (s : Seen). IsLeastFrom (is_seen s) from (Some from)) (sym is) (record {
  found = λ k at. let same : from ≡ k = same_Some from k at in (omega arith, refl);
  no_other = λ k le before. let lt : k < from = ltb-true k from before in absurd (omega arith);
})

pub these_seen : (seen : Seen) (list : Bor (List ℕ)) (from : ℕ) (o : Option ℕ) → seen ≡ These list → IsLeastFrom (is_in list.now) from o → IsLeastFrom (is_seen seen) from o
these_seen seen list from o is least = subst (λ (s : Seen). IsLeastFrom (is_seen s) from o) (sym is) (record {
  found = λ k at. least.found k at;
  no_other = λ k le before. least.no_other k le before;
})

-- ---- from list to list

-- a leap along one more list
pub leap_on : (lists : Lists) (i from at next : ℕ) → i < length lists → IsLeastFrom (is_in (list_at lists i)) at (Some next)
    → ((k : ℕ) → from ≤ k → k < at → is_in_each lists k ≡ false) → (k : ℕ) → from ≤ k → k < next → is_in_each lists k ≡ false
leap_on lists i from at next lt least out k le less = by_case (cases_lt k at)
  where
    by_case : (k < at) ⊎ (at ≤ k) → is_in_each lists k ≡ false
    by_case (inl under) = out k le under
    by_case (inr over) = not_in_each lists i k lt (least.no_other k over (lt-ltb k next less))

-- one list ends
pub leap_ends : (lists : Lists) (i from at : ℕ) → i < length lists → IsLeastFrom (is_in (list_at lists i)) at None
    → ((k : ℕ) → from ≤ k → k < at → is_in_each lists k ≡ false) → (k : ℕ) → from ≤ k → is_in_each lists k ≡ false
leap_ends lists i from at lt least out k le = by_case (cases_lt k at)
  where
    by_case : (k < at) ⊎ (at ≤ k) → is_in_each lists k ≡ false
    by_case (inl under) = out k le under
    by_case (inr over) = not_in_each lists i k lt (least.no_other k over refl)

-- ---- both

pub further : (o : Option ℕ) (from seen : ℕ) → from ≤ seen → IfSome o (λ (next : ℕ). seen ≤ next) → IfSome o (λ (next : ℕ). from ≤ next)
further None from seen le is = tt
further (Some next) from seen le is = let on : seen ≤ next = is in omega arith

pub both_skip : (sought : Sought) (lists : Lists) (from seen : ℕ) (o : Option ℕ) → lists ≡ sought.filters.items → IsLeastFrom (is_seen sought.seen) from (Some seen)
    → ((k : ℕ) → seen ≤ k → is_before k o ≡ true → is_in_each lists k ≡ false) → (k : ℕ) → from ≤ k → is_before k o ≡ true → is_direct_at sought k ≡ false
both_skip sought lists from seen o same least out k le before = by_case (cases_lt k seen)
  where
    by_case : (k < seen) ⊎ (seen ≤ k) → is_seen sought.seen k && passes sought k ≡ false
    by_case (inl under) = and_left (is_seen sought.seen k) (passes sought k) (least.no_other k le (lt-ltb k seen under))
    by_case (inr over) =
        and_right (is_seen sought.seen k) (passes sought k) (sym (ap (λ (ls : Lists). is_in_each ls k) same) ∙ out k over before)

pub none_skip : (sought : Sought) (from : ℕ) → IsLeastFrom (is_seen sought.seen) from None → (k : ℕ) → from ≤ k → is_direct_at sought k ≡ false
none_skip sought from least k le = and_left (is_seen sought.seen k) (passes sought k) (least.no_other k le refl)

-- ---- what is found

or_false : (b : Bool) → b || false ≡ b
or_false true = refl
or_false false = refl

all_less : (ks : List ℕ) (n : ℕ) → ((k : ℕ) → is_in ks k ≡ true → k < n) → AllByRecursion (λ j. j < n) ks
all_less [] n each = tt
all_less (x ∷ xs) n each = (each x (ap (λ b. b || is_in xs x) (eq-eqb x x refl)), all_less xs n (λ k is. each k (or_right (x == k) (is_in xs k) is)))

module _ (sought : Sought) where
  pub direct_none : (none : List ℕ) → none ≡ [] → AreDirect sought 0 none
  direct_none none empty = subst (λ (ks : List ℕ). AreDirect sought 0 ks) (sym empty) (record {
    ascending = tt;
    those = λ k. sym (ap (λ b. b && is_direct_at sought k) (le-ltb k 0 (omega arith)));
  })

  -- no further one stands before a later position
  pub direct_up_to : (from n : ℕ) (ks : List ℕ) → from ≤ n → ((k : ℕ) → from ≤ k → k < n → is_direct_at sought k ≡ false) → AreDirect sought from ks → AreDirect sought n ks
  direct_up_to from n ks upto out is = record {
    ascending = is.ascending;
    those = λ k. is.those k ∙ same k upto (cases_lt k from) (cases_lt k n);
  }
    where
      same : (k : ℕ) → from ≤ n → (k < from) ⊎ (from ≤ k) → (k < n) ⊎ (n ≤ k) → nat_lt k from && is_direct_at sought k ≡ nat_lt k n && is_direct_at sought k
      same k le (inl less) near = ap (λ b. b && is_direct_at sought k) (lt-ltb k from less ∙ sym (lt-ltb k n (omega arith)))
      same k le (inr past) (inl less) =
          ap (λ b. b && is_direct_at sought k) (le-ltb k from past) ∙ sym (and_right (nat_lt k n) (is_direct_at sought k) (out k past less))
      same k le (inr past) (inr beyond) = ap (λ b. b && is_direct_at sought k) (le-ltb k from past ∙ sym (le-ltb k n beyond))

  -- the next one isn't one of them
  pub direct_less : (from next : ℕ) (ks : List ℕ) → from ≤ next → ((k : ℕ) → from ≤ k → k < next → is_direct_at sought k ≡ false) → is_direct_at sought next ≡ false
      → AreDirect sought from ks → AreDirect sought (next + 1) ks
  direct_less from next ks le out fails is = direct_up_to from (next + 1) ks (omega arith) (λ k from less. by_case k from less (cases_lt k next)) is
    where
      by_case : (k : ℕ) → from ≤ k → k < next + 1 → (k < next) ⊎ (next ≤ k) → is_direct_at sought k ≡ false
      by_case k low high (inl under) = out k low under
      by_case k low high (inr over) = let same : next ≡ k = omega arith in subst (λ j. is_direct_at sought j ≡ false) same fails

  -- the next one is one of them
  pub direct_more : (from next : ℕ) (ks new : List ℕ) → from ≤ next → ((k : ℕ) → from ≤ k → k < next → is_direct_at sought k ≡ false) → is_direct_at sought next ≡ true
      → new ≡ ks ++ next ∷ [] → AreDirect sought from ks → AreDirect sought (next + 1) new
  direct_more from next ks new le out here put was = more (direct_up_to from next ks le out was)
    where
      same_below : (k : ℕ) → (next == k) ≡ false → (next ≡ k) ⊎ ((next < k) ⊎ (k < next)) → nat_lt k next ≡ nat_lt k (next + 1)
      same_below k other (inl same) = let yes = eq-eqb next k same in cc (other, yes)
      same_below k other (inr (inl less)) = le-ltb k next (omega arith) ∙ sym (le-ltb k (next + 1) (omega arith))
      same_below k other (inr (inr more)) = lt-ltb k next more ∙ sym (lt-ltb k (next + 1) (omega arith))

      by_test : AreDirect sought next ks → (k : ℕ) (b : Bool) → (next == k) ≡ b → is_in ks k || ((next == k) || false) ≡ nat_lt k (next + 1) && is_direct_at sought k
      by_test is k true same =
          let at : next ≡ k = eqb-true next k same in
          or_right (is_in ks k) ((next == k) || false) (ap (λ b. b || false) same)
          ∙ sym (and_from (nat_lt k (next + 1)) (is_direct_at sought k) (lt-ltb k (next + 1) (omega arith)) (subst (λ j. is_direct_at sought j ≡ true) at here))
      by_test is k false other =
          ap (λ b. is_in ks k || (b || false)) other
          ∙ (or_false (is_in ks k) ∙ (is.those k ∙ ap (λ b. b && is_direct_at sought k) (same_below k other (cases_order next k))))

      more : AreDirect sought next ks → AreDirect sought (next + 1) new
      more is = subst (λ (js : List ℕ). AreDirect sought (next + 1) js) (sym put) (record {
        ascending = ascending-append ks next is.ascending
            (all_less ks next (λ k among. ltb-true k next (and_parts (nat_lt k next) (is_direct_at sought k) (sym (is.those k) ∙ among)).0));
        those = λ k. list_any-append (λ j. j == k) ks (next ∷ []) ∙ by_test is k (next == k) refl;
      })

  -- the next one is put at the end, if it is one of them
  pub direct_next : (from next : ℕ) (ks new : List ℕ) → from ≤ next → ((k : ℕ) → from ≤ k → k < next → is_direct_at sought k ≡ false)
      → new ≡ (if is_direct_at sought next then ks ++ next ∷ [] else ks) → AreDirect sought from ks → AreDirect sought (next + 1) new
  direct_next from next ks new le out is was = by_test (is_direct_at sought next) refl
    where
      now : (b : Bool) → is_direct_at sought next ≡ b → new ≡ (if b then ks ++ next ∷ [] else ks)
      now b at = is ∙ ap (λ t. if t then ks ++ next ∷ [] else ks) at

      by_test : (b : Bool) → is_direct_at sought next ≡ b → AreDirect sought (next + 1) new
      by_test true at = direct_more from next ks new le out at (now true at) was
      by_test false at = subst (λ (js : List ℕ). AreDirect sought (next + 1) js) (sym (now false at)) (direct_less from next ks le out at was)
