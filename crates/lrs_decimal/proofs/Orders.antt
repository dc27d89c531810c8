-- Equality of the values of spellings is an equivalence.
use Rattle.std.proofs.Common.{◌≡◌, ℕ, ◌+◌, ◌^◌, List, refl, sym, ap, ◌∙◌, Equal, arith}
use Rattle.std.proofs.lemmas.Grind.{common_steps}
use Rattle.std.specs.Ordering.{nat_cmp}
use Rattle.lrs_decimal.specs.Parts.{is_negative, all_digits, digits_value, point_right, point_left}
use Rattle.lrs_decimal.specs.Values.{Signed, signed_cmp, scaled, order}
use Rattle.lrs_decimal.proofs.Comparing.{times, signed_steps, signed_cmp_times, ten_pos, cmp_equal}

equal_is : (x y : ℕ) → nat_cmp x y ≡ Equal → x ≡ y
equal_is x y e = grind (arith, common_steps)

pub order-refl : (s : List ℕ) → order s s ≡ Equal
order-refl s = let x = scaled s (point_right s + point_left s) in cmp_equal (x.plus + x.minus) (x.plus + x.minus) refl

pub order-sym : (s t : List ℕ) → order s t ≡ Equal → order t s ≡ Equal
order-sym s t e =
    let x = scaled s (point_right s + point_left t) in
    let y = scaled t (point_right t + point_left s) in
    cmp_equal (y.plus + x.minus) (x.plus + y.minus) (sym (equal_is (x.plus + y.minus) (y.plus + x.minus) e))

-- an order, with both points moved further
further : (s t : List ℕ) (k i j : ℕ) → point_right s + point_left t + k ≡ i → point_right t + point_left s + k ≡ j → order s t ≡ signed_cmp (scaled s i) (scaled t j)
further s t k i j ei ej =
    let ms = digits_value (all_digits s) in
    let mt = digits_value (all_digits t) in
    sym (signed_cmp_times (scaled s (point_right s + point_left t)) (scaled t (point_right t + point_left s)) (10 ^ k) (ten_pos k))
    ∙ ap (λ z. signed_cmp z (times (scaled t (point_right t + point_left s)) (10 ^ k))) (signed_steps (is_negative s) ms (point_right s + point_left t) k i ei)
    ∙ ap (signed_cmp (scaled s i)) (signed_steps (is_negative t) mt (point_right t + point_left s) k j ej)

trans_at : (x y z : Signed) → signed_cmp x y ≡ Equal → signed_cmp y z ≡ Equal → signed_cmp x z ≡ Equal
trans_at x y z e f =
    let a = equal_is (x.plus + y.minus) (y.plus + x.minus) e in
    let b = equal_is (y.plus + z.minus) (z.plus + y.minus) f in
    cmp_equal (x.plus + z.minus) (z.plus + x.minus) (omega (arith, a, b))

pub order-trans : (s t u : List ℕ) → order s t ≡ Equal → order t u ≡ Equal → order s u ≡ Equal
order-trans s t u e f =
    let x = scaled s (point_right s + point_left t + point_left u) in
    let y = scaled t (point_right t + point_left s + point_left u) in
    let z = scaled u (point_right u + point_left t + point_left s) in
    further s u (point_left t) (point_right s + point_left t + point_left u) (point_right u + point_left t + point_left s) (omega arith) (omega arith)
    ∙ trans_at x y z (sym (further s t (point_left u) (point_right s + point_left t + point_left u) (point_right t + point_left s + point_left u) refl refl) ∙ e)
    (sym (further t u (point_left s) (point_right t + point_left s + point_left u) (point_right u + point_left t + point_left s) (omega arith) refl) ∙ f)
