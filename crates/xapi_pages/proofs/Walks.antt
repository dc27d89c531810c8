-- Walks over the numbers below n, each of which has a next one or none: what is reached at all is reached in n steps.
use Rattle.std.proofs.Common.{◌≡◌, ◌<◌, ◌≤◌, ℕ, zero, suc, List, [], ◌∷◌, length, refl, sym, ◌∙◌, ap, subst, arith, Option, Some, None, Bool, true, false, ◌||◌}
use Rattle.std.specs.List.{AllByRecursion, IsDistinct, list_any}
use Rattle.std.proofs.Math.Dec.{eqb}
use Rattle.std.proofs.lemmas.Bool.{eqb-true}
use Rattle.std.proofs.lemmas.Map.Steps.{length-le_from_distinct_below}
use Rattle.xapi_pages.specs.Chains.{is_among, reaches}

-- the first that passes is reached after so many steps
abbrev pub IsFirst : (ℕ → Bool) → (ℕ → Option ℕ) → ℕ → ℕ → Type 0
IsFirst p next zero k = p k ≡ true
IsFirst p next (suc d) k = (j : ℕ) × (p k ≡ false) × (next k ≡ Some j) × IsFirst p next d j

-- positions of a walk, no two of them equal, from each of which the first is after so many steps at most
record Trail (p : ℕ → Bool) (next : ℕ → Option ℕ) (n d : ℕ) : Type 0 where
  xs : List ℕ
  long : length xs ≡ suc d
  distinct : IsDistinct eqb xs
  near : (q : ℕ) → list_any (eqb q) xs ≡ true → (e : ℕ) × (e ≤ d) × (q < n) × IsFirst p next e q

or_cases : {P : Type 0} (a b : Bool) → a || b ≡ true → (a ≡ true → P) → (b ≡ true → P) → P
or_cases true b is left right = left refl
or_cases false b is left right = right is

module _ (p : ℕ → Bool) (next : ℕ → Option ℕ) where
  same_first : (d e k : ℕ) → IsFirst p next d k → IsFirst p next e k → d ≡ e
  same_first zero zero k a b = refl
  same_first zero (suc e) k a b = let fails = b.1 in cc (a, fails)
  same_first (suc d) zero k a b = let fails = a.1 in cc (b, fails)
  same_first (suc d) (suc e) k a b =
      let same : a.0 ≡ b.0 = cc (a.2, b.2) in
      ap suc (same_first d e b.0 (subst (λ j. IsFirst p next d j) same a.3) b.3)

  pub reach : (steps d k : ℕ) → d ≤ steps → IsFirst p next d k → reaches p next steps (Some k) ≡ true
  reach zero zero k le is = is
  reach zero (suc d) k le is = absurd (omega arith)
  reach (suc steps) zero k le is = ap (λ b. b || reaches p next steps (next k)) is
  reach (suc steps) (suc d) k le is =
      ap (λ b. b || reaches p next steps (next k)) is.1
      ∙ (ap (λ o. reaches p next steps o) is.2 ∙ reach steps d is.0 (omega arith) is.3)

  find_first : (steps k : ℕ) → reaches p next steps (Some k) ≡ true → (d : ℕ) × IsFirst p next d k
  find_first zero k is = (0, is)
  find_first (suc steps) k is = by_test (λ j. find_first steps j) (p k) refl (next k) refl
    where
      onward : (j : ℕ) → p k ≡ false → next k ≡ Some j → ((d : ℕ) × IsFirst p next d j) → (d : ℕ) × IsFirst p next d k
      onward j fails at more = (suc more.0, (j, fails, at, more.1))

      by_test : ((j : ℕ) → reaches p next steps (Some j) ≡ true → (d : ℕ) × IsFirst p next d j) → (b : Bool) → p k ≡ b → (o : Option ℕ) → next k ≡ o → (d : ℕ) × IsFirst p next d k
      by_test further true passes o at = (0, passes)
      by_test further false fails None at =
          let none : false ≡ true = sym (ap (λ b. b || reaches p next steps (next k)) fails ∙ ap (λ o. reaches p next steps o) at) ∙ is in
          cc none
      by_test further false fails (Some j) at =
          onward j fails at (further j (sym (ap (λ b. b || reaches p next steps (next k)) fails ∙ ap (λ o. reaches p next steps o) at) ∙ is))

  apart : (k : ℕ) (xs : List ℕ) → list_any (eqb k) xs ≡ false → AllByRecursion (λ y. eqb k y ≡ false) xs
  apart k [] is = tt
  apart k (x ∷ xs) is = by_tests (λ rest. apart k xs rest) (eqb k x) (list_any (eqb k) xs) refl refl is
    where
      by_tests : (list_any (eqb k) xs ≡ false → AllByRecursion (λ y. eqb k y ≡ false) xs) → (a b : Bool) → eqb k x ≡ a → list_any (eqb k) xs ≡ b → a || b ≡ false → AllByRecursion (λ y. eqb k y ≡ false) (x ∷ xs)
      by_tests more true b at rest fails = cc fails
      by_tests more false true at rest fails = cc fails
      by_tests more false false at rest fails = (at, more rest)

  trail : (n : ℕ) → ((k j : ℕ) → next k ≡ Some j → j < n) → (d k : ℕ) → k < n → IsFirst p next d k → Trail p next n d
  unfolding IsDistinct
  trail n within zero k lt is = record {
    xs = k ∷ [];
    long = refl;
    distinct = (tt, tt);
    near = λ q among. or_cases (eqb q k) false among
        (λ same. let e = eqb-true q k same in (0, omega arith, subst (λ m. m < n) (sym e) lt, subst (λ m. IsFirst p next 0 m) (sym e) is))
        (λ none. cc none);
  }
  trail n within (suc d) k lt is = more (trail n within d is.0 (within k is.0 is.2) is.3)
    where
      not_again : (t : Trail p next n d) (b : Bool) → list_any (eqb k) t.xs ≡ b → b ≡ false
      not_again t true among =
          let near = t.near k among in
          let le = near.1 in
          let e : near.0 ≡ suc d = same_first near.0 (suc d) k near.3 is in
          absurd (omega arith)
      not_again t false among = refl

      more : Trail p next n d → Trail p next n (suc d)
      more t = record {
        xs = k ∷ t.xs;
        long = ap suc t.long;
        distinct = (apart k t.xs (not_again t (list_any (eqb k) t.xs) refl), t.distinct);
        near = λ q among. or_cases (eqb q k) (list_any (eqb q) t.xs) among
            (λ same. let e = eqb-true q k same in (suc d, omega arith, subst (λ m. m < n) (sym e) lt, subst (λ m. IsFirst p next (suc d) m) (sym e) is))
            (λ rest. let near = t.near q rest in let le = near.1 in (near.0, omega arith, near.2, near.3));
      }

  short : (n : ℕ) → ((k j : ℕ) → next k ≡ Some j → j < n) → (d k : ℕ) → k < n → IsFirst p next d k → d < n
  short n within d k lt is =
      let t = trail n within d k lt is in
      let most : length t.xs ≤ n = length-le_from_distinct_below t.xs n t.distinct (λ q among. (t.near q among).2) in
      let long = t.long in
      omega arith

  -- more steps than n reach fails more
  pub enough : (n : ℕ) → ((k j : ℕ) → next k ≡ Some j → j < n) → (k : ℕ) → k < n → reaches p next (suc n) (Some k) ≡ reaches p next n (Some k)
  enough n within k lt = by_tests (reaches p next (suc n) (Some k)) (reaches p next n (Some k)) refl refl
    where
      near : (steps : ℕ) → reaches p next steps (Some k) ≡ true → (d : ℕ) × (d < n) × IsFirst p next d k
      near steps is = let first = find_first steps k is in (first.0, short n within first.0 k lt first.1, first.1)

      by_tests : (a b : Bool) → reaches p next (suc n) (Some k) ≡ a → reaches p next n (Some k) ≡ b → a ≡ b
      by_tests true true more less = refl
      by_tests false false more less = refl
      by_tests true false more less =
          let first = near (suc n) more in
          let lt = first.1 in
          let passes : reaches p next n (Some k) ≡ true = reach n first.0 k (omega arith) first.2 in
          cc (less, passes)
      by_tests false true more less =
          let first = near n less in
          let lt = first.1 in
          let passes : reaches p next (suc n) (Some k) ≡ true = reach (suc n) first.0 k (omega arith) first.2 in
          cc (more, passes)

  -- from positions none of which passes, and from each of which the next is one of them, nothing is reached
  pub none_reached : (path : List ℕ) → ((w : ℕ) → is_among path w ≡ true → p w ≡ false) → ((w j : ℕ) → is_among path w ≡ true → next w ≡ Some j → is_among path j ≡ true)
      → (steps w : ℕ) → is_among path w ≡ true → reaches p next steps (Some w) ≡ false
  none_reached path fails closed zero w among = fails w among
  none_reached path fails closed (suc steps) w among =
      ap (λ b. b || reaches p next steps (next w)) (fails w among) ∙ by_next (λ j at. none_reached path fails closed steps j (closed w j among at)) (next w) refl
    where
      by_next : ((j : ℕ) → next w ≡ Some j → reaches p next steps (Some j) ≡ false) → (o : Option ℕ) → next w ≡ o → reaches p next steps (next w) ≡ false
      by_next further None at = ap (λ o. reaches p next steps o) at
      by_next further (Some j) at = ap (λ o. reaches p next steps o) at ∙ further j at

-- tests that agree on the numbers below n reach the same
pub alike : (p q : ℕ → Bool) (next : ℕ → Option ℕ) (n : ℕ) → ((k : ℕ) → k < n → p k ≡ q k) → ((k j : ℕ) → next k ≡ Some j → j < n)
    → (steps k : ℕ) → k < n → reaches p next steps (Some k) ≡ reaches q next steps (Some k)
alike p q next n same within zero k lt = same k lt
alike p q next n same within (suc steps) k lt =
    ap (λ b. b || reaches p next steps (next k)) (same k lt)
    ∙ ap (λ b. q k || b) (by_next (λ j at. alike p q next n same within steps j (within k j at)) (next k) refl)
  where
    by_next : ((j : ℕ) → next k ≡ Some j → reaches p next steps (Some j) ≡ reaches q next steps (Some j)) → (o : Option ℕ) → next k ≡ o → reaches p next steps (next k) ≡ reaches q next steps (next k)
    by_next further None at = ap (λ o. reaches p next steps o) at ∙ sym (ap (λ o. reaches q next steps o) at)
    by_next further (Some j) at = ap (λ o. reaches p next steps o) at ∙ (further j at ∙ sym (ap (λ o. reaches q next steps o) at))
