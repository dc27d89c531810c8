-- The numbers in a made statement have one or two digits; what ends with them is an IRI where one is asked for.
use Rattle.std.proofs.Common.{◌≡◌, ℕ, ◌+◌, ◌/◌, ◌%◌, ◌<◌, ◌≤◌, true, [], ◌∷◌, ◌++◌, length, codes, inl, inr, refl, sym, ap, ◌∙◌, subst, arith}
use Rattle.std.specs.Fmt.{decimal}
use Rattle.std.specs.Str.{chars}
use Rattle.std.proofs.lemmas.Bool.{agree_below, agree_below_at, cases_lt}
use Rattle.std.proofs.lemmas.Fmt.{decimal_digit, decimal_step}
use Rattle.lrs_names.specs.Iris.{is_iri}

two_digits : (n : ℕ) → 10 ≤ n → n < 100 → decimal n ≡ (48 + n / 10) ∷ (48 + n % 10) ∷ []
two_digits n some few = decimal_step n some (omega arith) ∙ ap (λ ds. ds ++ ((48 + n % 10) ∷ [])) (decimal_digit (n / 10) (omega arith))

pub short_decimal : (n : ℕ) → n < 100 → length (decimal n) ≤ 2
short_decimal n few = elim (cases_lt n 10) [
  | inl one ↦ subst (λ ds. length ds ≤ 2) (sym (decimal_digit n one)) (omega arith)
  | inr more ↦ subst (λ ds. length ds ≤ 2) (sym (two_digits n more few)) (omega arith)
]

-- ---- ids of verbs

verbs : agree_below (λ d. is_iri (codes "http://v.invalid/" ++ (48 + d) ∷ [])) (λ d. true) 7 ≡ true
unfolding is_iri chars
verbs = refl

pub verb_is_iri : (n : ℕ) → n < 7 → is_iri (codes "http://v.invalid/" ++ decimal n) ≡ true
verb_is_iri n few =
    ap (λ ds. is_iri (codes "http://v.invalid/" ++ ds)) (decimal_digit n (omega arith))
    ∙ agree_below_at (λ d. is_iri (codes "http://v.invalid/" ++ (48 + d) ∷ [])) (λ d. true) 7 n verbs few

pub voided_is_iri : is_iri (codes "http://adlnet.gov/expapi/verbs/voided") ≡ true
unfolding is_iri chars
voided_is_iri = refl

-- ---- ids of activities

first_activities : agree_below (λ d. is_iri (codes "http://a.invalid/" ++ (48 + d) ∷ [])) (λ d. true) 10 ≡ true
unfolding is_iri chars
first_activities = refl

activities : agree_below (λ n. is_iri (codes "http://a.invalid/" ++ (48 + n / 10) ∷ (48 + n % 10) ∷ [])) (λ n. true) 50 ≡ true
unfolding is_iri chars
activities = refl

pub activity_is_iri : (n : ℕ) → n < 50 → is_iri (codes "http://a.invalid/" ++ decimal n) ≡ true
activity_is_iri n few = elim (cases_lt n 10) [
  | inl one ↦
      ap (λ ds. is_iri (codes "http://a.invalid/" ++ ds)) (decimal_digit n one)
      ∙ agree_below_at (λ d. is_iri (codes "http://a.invalid/" ++ (48 + d) ∷ [])) (λ d. true) 10 n first_activities one
  | inr more ↦
      ap (λ ds. is_iri (codes "http://a.invalid/" ++ ds)) (two_digits n more (omega arith))
      ∙ agree_below_at (λ m. is_iri (codes "http://a.invalid/" ++ (48 + m / 10) ∷ (48 + m % 10) ∷ [])) (λ m. true) 50 n activities few
]
