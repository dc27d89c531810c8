-- The nearest position in one of two lists, and the nearest candidate.
use Rattle.std.proofs.Common.{◌≡◌, ◌<◌, ◌≤◌, ◌-◌, ◌⊎◌, ℕ, List, min, max, nat_le, nat_lt, refl, sym, ◌∙◌, ap, subst, inl, inr, arith, Option, Some, None, SomeIff, Bool, true, false, ◌&&◌, ◌||◌, Bor, if◌then◌else◌}
use Rattle.std.proofs.lemmas.Bool.{and_from, and_left, and_right, cases_lt, cond-false, cond-true, le-leb, le-ltb, leb-false, leb-true, lt-leb, lt-ltb, ltb-false, ltb-true, or_from, or_left, or_right}
use Rattle.std.proofs.lemmas.Option.{cond_some, same_Some}
use Rattle.lrs_names.specs.Rules.{lesser}
use Rattle.xapi_index.specs.XapiPostingsAscending.{IsAscending, is_in}
use Rattle.xapi_index.specs.XapiPostingsNearest.{IsGreatestBelow, IsLeastFrom, is_after, is_before}
use Rattle.xapi_search.specs.Candidates.{IsFirstFrom, IsLastBefore, ListsAscend, is_candidate, stands_in}
use Rattle.xapi_search.specs.Nearer.{greater, if_below, if_from}
use Rattle.xapi_search.specs.declared.candidates.Candidates.{Candidates}
use Rattle.xapi_search.specs.declared.candidates.Lists.{Lists}
use Rattle.xapi_search.specs.declared.candidates.Lists.TheVariants.{Each, Either}

-- ---- where each position is one

each_least : (start : ℕ) → IsLeastFrom (stands_in Each) start (Some start)
each_least start = record {
  found = λ k at. let same : start ≡ k = same_Some start k at in (omega arith, refl);
  no_other = λ k le before. let lt : k < start = ltb-true k start before in absurd (omega arith);
}

each_greatest : (end : ℕ) (o : Option ℕ) → SomeIff o (1 ≤ end) (end - 1) → IsGreatestBelow (stands_in Each) end o
each_greatest end None none = record {
  found = λ k at. cc at;
  no_other = λ k lt after. absurd (none (omega arith));
}
each_greatest end (Some m) some = record {
  found = λ k at.
      let same : m ≡ k = same_Some m k at in
      let there = some.0 in
      let is = some.1 in
      (omega arith, refl);
  no_other = λ k lt after.
      let above : m < k = ltb-true m k after in
      let is = some.1 in
      absurd (omega arith);
}

pub least_of_all : (lists : Lists) (start : ℕ) → lists ≡ Each → IsLeastFrom (stands_in lists) start (Some start)
least_of_all lists start is = subst (λ (l : Lists). IsLeastFrom (stands_in l) start (Some start)) (sym is) (each_least start)

pub greatest_of_all : (lists : Lists) (end : ℕ) (o : Option ℕ) → lists ≡ Each → SomeIff o (1 ≤ end) (end - 1) → IsGreatestBelow (stands_in lists) end o
greatest_of_all lists end o is some = subst (λ (l : Lists). IsGreatestBelow (stands_in l) end o) (sym is) (each_greatest end o some)

-- ---- in one of two lists

module _ (a b : Bor (List ℕ)) where
  either_least : (start : ℕ) (x y : Option ℕ) → IsLeastFrom (is_in a.now) start x → IsLeastFrom (is_in b.now) start y → IsLeastFrom (stands_in (Either a b)) start (lesser x y)
  either_least start None None left right = record {
    found = λ k at. cc at;
    no_other = λ k le before. or_from (is_in a.now k) (is_in b.now k) (left.no_other k le refl) (right.no_other k le refl);
  }
  either_least start None (Some y) left right = record {
    found = λ k at. let there = right.found k at in (there.0, or_right (is_in a.now k) (is_in b.now k) there.1);
    no_other = λ k le before. or_from (is_in a.now k) (is_in b.now k) (left.no_other k le refl) (right.no_other k le before);
  }
  either_least start (Some x) None left right = record {
    found = λ k at. let there = left.found k at in (there.0, or_left (is_in a.now k) (is_in b.now k) there.1);
    no_other = λ k le before. or_from (is_in a.now k) (is_in b.now k) (left.no_other k le before) (right.no_other k le refl);
  }
  either_least start (Some x) (Some y) left right = record {
    found = λ k at. by_case k (same_Some (min x y) k at) (cases_lt x y);
    no_other = λ k le before.
        let lt : k < min x y = ltb-true k (min x y) before in
        or_from (is_in a.now k) (is_in b.now k) (left.no_other k le (lt-ltb k x (omega arith))) (right.no_other k le (lt-ltb k y (omega arith)));
  }
    where
      by_case : (k : ℕ) → min x y ≡ k → (x < y) ⊎ (y ≤ x) → (start ≤ k) × (is_in a.now k || is_in b.now k ≡ true)
      by_case k same (inl lt) =
          let is : x ≡ k = omega arith in
          let there = left.found k (ap (λ j. Some j) is) in
          (there.0, or_left (is_in a.now k) (is_in b.now k) there.1)
      by_case k same (inr le) =
          let is : y ≡ k = omega arith in
          let there = right.found k (ap (λ j. Some j) is) in
          (there.0, or_right (is_in a.now k) (is_in b.now k) there.1)

  either_greatest : (end : ℕ) (x y : Option ℕ) → IsGreatestBelow (is_in a.now) end x → IsGreatestBelow (is_in b.now) end y → IsGreatestBelow (stands_in (Either a b)) end (greater x y)
  either_greatest end None None left right = record {
    found = λ k at. cc at;
    no_other = λ k lt after. or_from (is_in a.now k) (is_in b.now k) (left.no_other k lt refl) (right.no_other k lt refl);
  }
  either_greatest end None (Some y) left right = record {
    found = λ k at. let there = right.found k at in (there.0, or_right (is_in a.now k) (is_in b.now k) there.1);
    no_other = λ k lt after. or_from (is_in a.now k) (is_in b.now k) (left.no_other k lt refl) (right.no_other k lt after);
  }
  either_greatest end (Some x) None left right = record {
    found = λ k at. let there = left.found k at in (there.0, or_left (is_in a.now k) (is_in b.now k) there.1);
    no_other = λ k lt after. or_from (is_in a.now k) (is_in b.now k) (left.no_other k lt after) (right.no_other k lt refl);
  }
  either_greatest end (Some x) (Some y) left right = record {
    found = λ k at. by_case k (same_Some (max x y) k at) (cases_lt x y);
    no_other = λ k lt after.
        let above : max x y < k = ltb-true (max x y) k after in
        or_from (is_in a.now k) (is_in b.now k) (left.no_other k lt (lt-ltb x k (omega arith))) (right.no_other k lt (lt-ltb y k (omega arith)));
  }
    where
      by_case : (k : ℕ) → max x y ≡ k → (x < y) ⊎ (y ≤ x) → (k < end) × (is_in a.now k || is_in b.now k ≡ true)
      by_case k same (inl lt) =
          let is : y ≡ k = omega arith in
          let there = right.found k (ap (λ j. Some j) is) in
          (there.0, or_right (is_in a.now k) (is_in b.now k) there.1)
      by_case k same (inr le) =
          let is : x ≡ k = omega arith in
          let there = left.found k (ap (λ j. Some j) is) in
          (there.0, or_left (is_in a.now k) (is_in b.now k) there.1)

  pub least_of_both : (lists : Lists) (start : ℕ) (x y o : Option ℕ) → lists ≡ Either a b → o ≡ lesser x y → IsLeastFrom (is_in a.now) start x → IsLeastFrom (is_in b.now) start y → IsLeastFrom (stands_in lists) start o
  least_of_both lists start x y o is same left right =
      subst (λ (l : Lists). IsLeastFrom (stands_in l) start o) (sym is) (subst (λ (r : Option ℕ). IsLeastFrom (stands_in (Either a b)) start r) (sym same) (either_least start x y left right))

  pub greatest_of_both : (lists : Lists) (end : ℕ) (x y o : Option ℕ) → lists ≡ Either a b → o ≡ greater x y → IsGreatestBelow (is_in a.now) end x → IsGreatestBelow (is_in b.now) end y → IsGreatestBelow (stands_in lists) end o
  greatest_of_both lists end x y o is same left right =
      subst (λ (l : Lists). IsGreatestBelow (stands_in l) end o) (sym is) (subst (λ (r : Option ℕ). IsGreatestBelow (stands_in (Either a b)) end r) (sym same) (either_greatest end x y left right))

  -- both are in order
  pub both_ascend : (lists : Lists) → lists ≡ Either a b → ListsAscend lists → IsAscending a.now × IsAscending b.now
  both_ascend lists is ascend = subst (λ (l : Lists). ListsAscend l) is ascend

-- ---- between bounds

pub below_yes : (end : ℕ) (found : Option ℕ) (k : ℕ) → found ≡ Some k → k < end → Some k ≡ if_below end found
below_yes end found k is lt = sym (ap (if_below end) is ∙ cond-true (nat_lt k end) (Some k) None (lt-ltb k end lt))

pub below_no : (end : ℕ) (found : Option ℕ) (k : ℕ) → found ≡ Some k → end ≤ k → None ≡ if_below end found
below_no end found k is le = sym (ap (if_below end) is ∙ cond-false (nat_lt k end) (Some k) None (le-ltb k end le))

pub below_none : (end : ℕ) (found : Option ℕ) → found ≡ None → None ≡ if_below end found
below_none end found none = sym (ap (if_below end) none)

pub from_yes : (first : ℕ) (found : Option ℕ) (k : ℕ) → found ≡ Some k → first ≤ k → Some k ≡ if_from first found
from_yes first found k is le = sym (ap (if_from first) is ∙ cond-true (nat_le first k) (Some k) None (le-leb first k le))

pub from_no : (first : ℕ) (found : Option ℕ) (k : ℕ) → found ≡ Some k → k < first → None ≡ if_from first found
from_no first found k is lt = sym (ap (if_from first) is ∙ cond-false (nat_le first k) (Some k) None (lt-leb first k lt))

pub from_none : (first : ℕ) (found : Option ℕ) → found ≡ None → None ≡ if_from first found
from_none first found none = sym (ap (if_from first) none)

-- what comes before a nearest one that isn't cut off comes before it where it is
before_still : (end : ℕ) (found : Option ℕ) (k : ℕ) → k < end → is_before k (if_below end found) ≡ true → is_before k found ≡ true
before_still end None k high before = refl
before_still end (Some m) k high before = by_test (nat_lt m end) refl before
  where
    by_test : (b : Bool) → nat_lt m end ≡ b → is_before k (if b then Some m else None) ≡ true → nat_lt k m ≡ true
    by_test true test before = before
    by_test false test before = let le : end ≤ m = ltb-false m end test in lt-ltb k m (omega arith)

after_still : (first : ℕ) (found : Option ℕ) (k : ℕ) → first ≤ k → is_after k (if_from first found) ≡ true → is_after k found ≡ true
after_still first None k low after = refl
after_still first (Some m) k low after = by_test (nat_le first m) refl after
  where
    by_test : (b : Bool) → nat_le first m ≡ b → is_after k (if b then Some m else None) ≡ true → nat_lt m k ≡ true
    by_test true test after = after
    by_test false test after = let lt : m < first = leb-false first m test in lt-ltb m k (omega arith)

module _ (c : Candidates) where
  -- a position is none if it stands in neither list, or not between the bounds
  no_candidate : (k : ℕ) → (c.first ≤ k → k < c.end → stands_in c.lists k ≡ false) → is_candidate c k ≡ false
  no_candidate k out = by_tests (nat_le c.first k) (nat_lt k c.end) refl refl
    where
      by_tests : (x y : Bool) → nat_le c.first k ≡ x → nat_lt k c.end ≡ y → is_candidate c k ≡ false
      by_tests false y low high = and_left (nat_le c.first k && nat_lt k c.end) (stands_in c.lists k) (and_left (nat_le c.first k) (nat_lt k c.end) low)
      by_tests true false low high = and_left (nat_le c.first k && nat_lt k c.end) (stands_in c.lists k) (and_right (nat_le c.first k) (nat_lt k c.end) high)
      by_tests true true low high =
          and_right (nat_le c.first k && nat_lt k c.end) (stands_in c.lists k) (out (leb-true c.first k low) (ltb-true k c.end high))

  one_candidate : (k : ℕ) → c.first ≤ k → k < c.end → stands_in c.lists k ≡ true → is_candidate c k ≡ true
  one_candidate k low high stands =
      and_from (nat_le c.first k && nat_lt k c.end) (stands_in c.lists k) (and_from (nat_le c.first k) (nat_lt k c.end) (le-leb c.first k low) (lt-ltb k c.end high)) stands

  least_there : (from start : ℕ) (found : Option ℕ) (k : ℕ) → start ≡ max from c.first → IsLeastFrom (stands_in c.lists) start found → if_below c.end found ≡ Some k → (from ≤ k) × (is_candidate c k ≡ true)
  least_there from start None k is least at = cc at
  least_there from start (Some m) k is least at =
      let parts = cond_some (nat_lt m c.end) m k at in
      let high : m < c.end = ltb-true m c.end parts.0 in
      let same : m ≡ k = parts.1 in
      let there = least.found m refl in
      let low : start ≤ m = there.0 in
      (omega arith, subst (λ j. is_candidate c j ≡ true) same (one_candidate m (omega arith) high there.1))

  pub first_candidate : (from start : ℕ) (found result : Option ℕ) → start ≡ max from c.first → IsLeastFrom (stands_in c.lists) start found → result ≡ if_below c.end found → IsFirstFrom c from result
  first_candidate from start found result is least same = record {
    found = λ k at. least_there from start found k is least (sym same ∙ at);
    no_other = λ k le before.
        no_candidate k (λ low high. least.no_other k (omega arith) (before_still c.end found k high (sym (ap (is_before k) same) ∙ before)));
  }

  greatest_there : (end bound : ℕ) (found : Option ℕ) (k : ℕ) → bound ≡ min end c.end → IsGreatestBelow (stands_in c.lists) bound found → if_from c.first found ≡ Some k → (k < end) × (is_candidate c k ≡ true)
  greatest_there end bound None k is greatest at = cc at
  greatest_there end bound (Some m) k is greatest at =
      let parts = cond_some (nat_le c.first m) m k at in
      let low : c.first ≤ m = leb-true c.first m parts.0 in
      let same : m ≡ k = parts.1 in
      let there = greatest.found m refl in
      let high : m < bound = there.0 in
      (omega arith, subst (λ j. is_candidate c j ≡ true) same (one_candidate m low (omega arith) there.1))

  pub last_candidate : (end bound : ℕ) (found result : Option ℕ) → bound ≡ min end c.end → IsGreatestBelow (stands_in c.lists) bound found → result ≡ if_from c.first found → IsLastBefore c end result
  last_candidate end bound found result is greatest same = record {
    found = λ k at. greatest_there end bound found k is greatest (sym same ∙ at);
    no_other = λ k lt after.
        no_candidate k (λ low high. greatest.no_other k (omega arith) (after_still c.first found k low (sym (ap (is_after k) same) ∙ after)));
  }
