-- How many items pass a test: by one item more, and by one that passes no longer.
use Rattle.std.proofs.Common.{◌≡◌, ◌∙◌, ◌+◌, ◌-◌, ◌^◌, ◌<◌, ◌≤◌, ℕ, Bool, true, false, List, [], ◌∷◌, ◌++◌, cond, length, refl, sym, ap, arith}
use Rattle.std.specs.List.{count_by}
use Rattle.std.proofs.Math.Nat.{min-eq_left}
use Rattle.std.proofs.lemmas.List.Sums.{count_by-le-length, sum_by-append, sum_by-cons, sum_by_push}
use Rattle.cmi5_session.specs.Counting.{one_less, one_more}

abbrev pub one_if : Bool → ℕ
one_if holds = cond holds 1 0

-- ---- numbers

plus_none : (number : ℕ) → number + 0 ≡ number
plus_none number = omega arith

one_more_is : (number : ℕ) (counts : Bool) → number + 1 < 2 ^ 64 → one_more number counts ≡ number + one_if counts
one_more_is number true few =
    let fits : number + 1 ≤ 2 ^ 64 - 1 = omega arith in
    min-eq_left fits
one_more_is number false few = sym (plus_none number)

one_less_is : (a c : ℕ) (counts : Bool) → one_less (a + (one_if counts + c)) counts ≡ a + (0 + c)
one_less_is a c true = omega arith
one_less_is a c false = refl

-- ---- items

module _ {A : Type 0} (test : A → Bool) where
  pub count_cons : (x : A) (xs : List A) → count_by test (x ∷ xs) ≡ one_if (test x) + count_by test xs
  count_cons x xs = sum_by-cons (λ y. cond (test y) 1 0) x xs

  count_push : (xs : List A) (x : A) → count_by test (xs ++ x ∷ []) ≡ count_by test xs + one_if (test x)
  count_push xs x = sum_by_push (λ y. cond (test y) 1 0) xs x

  count_around : (before : List A) (x : A) (behind : List A) → count_by test (before ++ x ∷ behind) ≡ count_by test before + (one_if (test x) + count_by test behind)
  count_around before x behind = sum_by-append (λ y. cond (test y) 1 0) before (x ∷ behind) ∙ ap (λ n. count_by test before + n) (count_cons x behind)

  -- one more that doesn't pass
  pub count_none : (xs : List A) (x : A) → test x ≡ false → count_by test (xs ++ x ∷ []) ≡ count_by test xs
  count_none xs x fails = count_push xs x ∙ (ap (λ b. count_by test xs + one_if b) fails ∙ plus_none (count_by test xs))

  -- one more, which passes or not
  pub count_one : (xs : List A) (x : A) (passes : Bool) → test x ≡ passes → length xs + 1 < 2 ^ 64 → one_more (count_by test xs) passes ≡ count_by test (xs ++ x ∷ [])
  count_one xs x passes is small =
      let few = count_by-le-length test xs in
      let room : count_by test xs + 1 < 2 ^ 64 = omega arith in
      one_more_is (count_by test xs) passes room ∙ sym (count_push xs x ∙ ap (λ b. count_by test xs + one_if b) is)

  -- one that doesn't pass in place of one that did or not
  pub count_less : (before behind : List A) (x y : A) (passed : Bool) → test x ≡ passed → test y ≡ false → one_less (count_by test (before ++ x ∷ behind)) passed ≡ count_by test (before ++ y ∷ behind)
  count_less before behind x y passed is fails =
      ap (λ n. one_less n passed) (count_around before x behind ∙ ap (λ b. count_by test before + (one_if b + count_by test behind)) is)
      ∙ (one_less_is (count_by test before) (count_by test behind) passed
      ∙ sym (count_around before y behind ∙ ap (λ b. count_by test before + (one_if b + count_by test behind)) fails))

  -- one in place of another, and neither passes
  pub count_same : (before behind : List A) (x y : A) → test x ≡ false → test y ≡ false → count_by test (before ++ x ∷ behind) ≡ count_by test (before ++ y ∷ behind)
  count_same before behind x y failed fails = count_less before behind x y false failed fails
