-- The least rule of lists that are joined is the lesser of theirs.
use Rattle.std.proofs.Common.{subst, ◌≤◌, inl, inr, true, nat_le, ◌≡◌, ℕ, List, [], ◌∷◌, ◌++◌, min, Option, Some, None, refl, sym, ap, ◌∙◌, arith}
use Rattle.std.specs.List.{list_all}
use Rattle.std.specs.Prelude.{IfOk, Result, Ok, Err}
use Rattle.std.proofs.lemmas.Bool.{cases_lt}
use Rattle.std.proofs.lemmas.Bool.Decides.{nat_tests}
use Rattle.lrs_names.specs.Rules.{lesser, least, IsLeast}

pub lesser-none : (a : Option ℕ) → lesser a None ≡ a
lesser-none None = refl
lesser-none (Some r) = refl

pub lesser_assoc : (a b c : Option ℕ) → lesser (lesser a b) c ≡ lesser a (lesser b c)
lesser_assoc None b c = refl
lesser_assoc (Some r) None c = refl
lesser_assoc (Some r) (Some s) None = refl
lesser_assoc (Some r) (Some s) (Some t) = let e : min (min r s) t ≡ min r (min s t) = omega arith in ap Some e

pub least-append : (xs ys : List ℕ) → least (xs ++ ys) ≡ lesser (least xs) (least ys)
least-append [] ys = refl
least-append (x ∷ xs) ys = ap (lesser (Some x)) (least-append xs ys) ∙ sym (lesser_assoc (Some x) (least xs) (least ys))

-- ---- that it is the least

all_above : (r s : ℕ) (rs : List ℕ) → r ≤ s → list_all (λ t. nat_le s t) rs ≡ true → list_all (λ t. nat_le r t) rs ≡ true
all_above r s [] le all = refl
all_above r s (t ∷ rs) le all = let rest = all_above r s rs le in grind (arith, nat_tests, rest)

least_with : (r : ℕ) (rs : List ℕ) (o : Option ℕ) → IsLeast rs o → IsLeast (r ∷ rs) (lesser (Some r) o)
least_with r rs None is = rw is (grind (arith, nat_tests), grind (arith, nat_tests))
least_with r rs (Some s) is = elim (cases_lt s r) [
  | inl below ↦
      let same : s ≡ min r s = omega arith in
      let found = is.0 in
      let all = is.1 in
      subst (λ m. IsLeast (r ∷ rs) (Some m)) same (grind (arith, nat_tests, found), grind (arith, nat_tests, all))
  | inr above ↦
      let same : r ≡ min r s = omega arith in
      let all = all_above r s rs above is.1 in
      subst (λ m. IsLeast (r ∷ rs) (Some m)) same (grind (arith, nat_tests), grind (arith, nat_tests, all))
]

pub least_is : (rules : List ℕ) → IsLeast rules (least rules)
least_is [] = refl
least_is (r ∷ rs) = least_with r rs (least rs) (least_is rs)

pub ok_least : {E : Type 0} (fs : List ℕ) (r : Result (Option ℕ) E) → IfOk r (λ o. o ≡ least fs) → IfOk r (IsLeast fs)
ok_least fs (Ok o) e = subst (IsLeast fs) (sym e) (least_is fs)
ok_least fs (Err x) e = tt

-- ---- one more item of a list is looked at

pub one_more : (all here now later : List ℕ) (broken found next : Option ℕ) → least all ≡ lesser broken (least here)
    → here ≡ now ++ later → found ≡ least now → next ≡ lesser broken found
    → least all ≡ lesser next (least later)
one_more all here now later broken found next so is f n =
    so ∙ ap (λ z. lesser broken (least z)) is ∙ ap (lesser broken) (least-append now later)
    ∙ sym (lesser_assoc broken (least now) (least later))
    ∙ ap (λ z. lesser (lesser broken z) (least later)) (sym f) ∙ ap (λ z. lesser z (least later)) (sym n)

-- ---- for the tactics

pub ruleset joined = (least-append, lesser_assoc, lesser-none)
