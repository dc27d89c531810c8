-- What is alike of leaves is an equivalence.
use Rattle.std.proofs.Common.{◌≡◌, ℕ, List, Bool, true, false, ◌&&◌, ◌⊎◌, inl, inr, refl, sym, ap, ◌∙◌, subst, true≢false, Equal}
use Rattle.std.proofs.lemmas.Bool.{and_from, or_cases, or_left, or_right}
use Rattle.std.proofs.lemmas.Cmp.{nat_list_eq_equiv, int_eq_equiv}
use Rattle.std.specs.declared.cmp.Ordering.{Ordering}
use Rattle.std.specs.Ordering.{is_eq}
use Rattle.std.specs.Str.{bytes_eq}
use Rattle.std.specs.Cmp.{both_ways, first_so, second_so}
use Rattle.lrs_decimal.specs.Values.{order}
use Rattle.lrs_decimal.proofs.Orders.{order-sym, order-trans}
use Rattle.lrs_time.proofs.DurationLemmas.{same_span_equivalence}
use Rattle.lrs_decimal.specs.Range.{is_decimal}
use Rattle.xapi_values.specs.declared.kinds.Kind.{Kind}
use Rattle.xapi_alike.specs.Normal.{Words, letters, uuid, instant, lasting}
use Rattle.xapi_values.specs.Kinds.{same_kind}
use Rattle.xapi_values.specs.Numbers.{are_equal}
use Rattle.xapi_alike.specs.Alike.{same_amount, same_words, same_truth}
use Rattle.lrs_json_equal.proofs.SameValues.{is_equal, name_is}

-- ---- truth values

pub truth_is : (b c : Bool) → same_truth b c ≡ true → b ≡ c
truth_is true true e = refl
truth_is true false e = sym e
truth_is false true e = absurd (true≢false (sym e))
truth_is false false e = refl

pub truth_refl : (b : Bool) → same_truth b b ≡ true
truth_refl true = refl
truth_refl false = refl

pub kind_refl : (k : Kind) → same_kind k k ≡ true
kind_refl Kind.Unstated = refl
kind_refl Kind.Activity = refl
kind_refl Kind.Agent = refl
kind_refl Kind.Group = refl
kind_refl Kind.StatementRef = refl
kind_refl Kind.SubStatement = refl
kind_refl Kind.Other = refl

pub kind_is : (k l : Kind) → same_kind k l ≡ true → k ≡ l
kind_is Kind.Unstated Kind.Unstated e = refl
kind_is Kind.Activity Kind.Activity e = refl
kind_is Kind.Agent Kind.Agent e = refl
kind_is Kind.Group Kind.Group e = refl
kind_is Kind.StatementRef Kind.StatementRef e = refl
kind_is Kind.SubStatement Kind.SubStatement e = refl
kind_is Kind.Other Kind.Other e = refl
kind_is _ _ e = absurd (true≢false (sym e))

-- ---- numbers

record OfOneValue (s t : List ℕ) : Type 0 where
  first : is_decimal s ≡ true
  second : is_decimal t ≡ true
  equal : order s t ≡ Equal

taken_apart : (s t : List ℕ) → are_equal s t ≡ true → OfOneValue s t
taken_apart s t e =
    let front = first_so (is_decimal s && is_decimal t) (is_eq (order s t)) e in
    record {
      first = first_so (is_decimal s) (is_decimal t) front;
      second = second_so (is_decimal s) (is_decimal t) front;
      equal = is_equal (order s t) (second_so (is_decimal s && is_decimal t) (is_eq (order s t)) e);
    }

put_together : (s t : List ℕ) → OfOneValue s t → are_equal s t ≡ true
put_together s t o = and_from (is_decimal s && is_decimal t) (is_eq (order s t)) (and_from (is_decimal s) (is_decimal t) o.first o.second) (ap is_eq o.equal)

amount_sym : (s t : List ℕ) → same_amount s t ≡ true → same_amount t s ≡ true
amount_sym s t e = turned (or_cases (bytes_eq s t) (are_equal s t) e)
  where
    turned : (bytes_eq s t ≡ true) ⊎ (are_equal s t ≡ true) → same_amount t s ≡ true
    turned (inl f) = or_left (bytes_eq t s) (are_equal t s) (sym (nat_list_eq_equiv.symm s t) ∙ f)
    turned (inr f) =
        let o = taken_apart s t f in
        or_right (bytes_eq t s) (are_equal t s) (put_together t s (record { first = o.second; second = o.first; equal = order-sym s t o.equal }))

amount_trans : (s t u : List ℕ) → same_amount s t ≡ true → same_amount t u ≡ true → same_amount s u ≡ true
amount_trans s t u e f = joined (or_cases (bytes_eq s t) (are_equal s t) e) (or_cases (bytes_eq t u) (are_equal t u) f)
  where
    joined : (bytes_eq s t ≡ true) ⊎ (are_equal s t ≡ true) → (bytes_eq t u ≡ true) ⊎ (are_equal t u ≡ true) → same_amount s u ≡ true
    joined (inl a) b = subst (λ (z : List ℕ). same_amount z u ≡ true) (sym (name_is s t a)) f
    joined (inr a) (inl b) = subst (λ (z : List ℕ). same_amount s z ≡ true) (name_is t u b) e
    joined (inr a) (inr b) =
        let o = taken_apart s t a in
        let p = taken_apart t u b in
        or_right (bytes_eq s u) (are_equal s u) (put_together s u (record { first = o.first; second = p.second; equal = order-trans s t u o.equal p.equal }))

pub amount_refl : (s : List ℕ) → same_amount s s ≡ true
amount_refl s = or_left (bytes_eq s s) (are_equal s s) (nat_list_eq_equiv.refl s)

pub amount_congr : (s t u : List ℕ) → same_amount s t ≡ true → same_amount s u ≡ same_amount t u
amount_congr s t u e = both_ways (same_amount s u) (same_amount t u) (λ f. amount_trans t s u (amount_sym s t e) f) (λ f. amount_trans s t u e f)

-- ---- texts

pub words_refl : (v : Words) → same_words v v ≡ true
words_refl (letters s) = nat_list_eq_equiv.refl s
words_refl (uuid i) = nat_list_eq_equiv.refl i
words_refl (instant i) = int_eq_equiv.refl i
words_refl (lasting s) = same_span_equivalence.refl s

pub words_congr : (v w u : Words) → same_words v w ≡ true → same_words v u ≡ same_words w u
words_congr (letters s) (letters t) (letters u) e = nat_list_eq_equiv.congr s t u e
words_congr (letters s) (letters t) _ e = refl
words_congr (uuid s) (uuid t) (uuid u) e = nat_list_eq_equiv.congr s t u e
words_congr (uuid s) (uuid t) _ e = refl
words_congr (instant s) (instant t) (instant u) e = int_eq_equiv.congr s t u e
words_congr (instant s) (instant t) _ e = refl
words_congr (lasting s) (lasting t) (lasting u) e = same_span_equivalence.congr s t u e
words_congr (lasting s) (lasting t) _ e = refl
words_congr _ _ _ e = absurd (true≢false (sym e))
