-- Comparisons of whole numbers times powers of ten.
use Rattle.std.proofs.Common.{◌≡◌, ◌≢◌, ◌<◌, ◌≤◌, ℕ, zero, suc, ◌+◌, ◌-◌, ◌*◌, ◌^◌, Bool, true, false, nat_lt, List, refl, sym, ap, ◌∙◌, Less, Equal, Greater, arith}
use Rattle.std.proofs.Math.Nat.{one-le-pow, pow-le-pow_right, mul-le-mul_right, mul_assoc, mul-pos, add-mul}
use Rattle.std.proofs.lemmas.Nat.{pow-add}
use Rattle.std.proofs.lemmas.Grind.{common_steps}
use Rattle.std.specs.Ordering.{nat_cmp, ordering_then, ordering_reverse}
use Rattle.lrs_decimal.specs.Parts.{is_negative, all_digits, digits_value, point_right, point_left}
use Rattle.lrs_decimal.specs.Values.{Signed, signed, signed_cmp, scaled, order, units, HasValue}
use Rattle.lrs_decimal.specs.declared.decimal.Decimal.{Decimal}
use Rattle.lrs_decimal.specs.declared.limits.TheConstants.{LARGEST_EXPONENT, MOST_SIGNIFICANT_DIGITS}

cmp_less : (x y : ℕ) → x < y → nat_cmp x y ≡ Less
cmp_less x y l = grind (arith, common_steps)

pub cmp_equal : (x y : ℕ) → x ≡ y → nat_cmp x y ≡ Equal
cmp_equal x y e = grind (arith, common_steps)

cmp_more : (x y : ℕ) → y < x → nat_cmp x y ≡ Greater
cmp_more x y l = grind (arith, common_steps)

pub ten_pos : (k : ℕ) → 0 < 10 ^ k
ten_pos k = let h = one-le-pow k 10 (omega arith) in omega (arith, h)

pub number_below : (number power : ℕ) → number < 10 ^ MOST_SIGNIFICANT_DIGITS → MOST_SIGNIFICANT_DIGITS < power → number < 10 ^ power
number_below number power l m = let h = pow-le-pow_right {n = 10} (omega arith) {i = MOST_SIGNIFICANT_DIGITS} {j = power} (omega (arith, m)) in omega (arith, l, h)

-- ---- the quotient, and then the remainder, decide

one_times : (t : ℕ) → 1 * t ≡ t
one_times t = omega arith

cmp_zero : (r : ℕ) (b : Bool) → nat_lt 0 r ≡ b → (x y : ℕ) → x ≡ y → nat_cmp 0 r ≡ nat_cmp x (y + r)
cmp_zero r true e x y same = let l : 0 < r = grind (arith, common_steps) in cmp_less 0 r l ∙ sym (cmp_less x (y + r) (omega (arith, l, same)))
cmp_zero r false e x y same = let z : 0 ≡ r = grind (arith, common_steps) in cmp_equal 0 r z ∙ sym (cmp_equal x (y + r) (omega (arith, z, same)))

cmp_plus : (x y r : ℕ) → x ≡ y → nat_cmp 0 r ≡ nat_cmp x (y + r)
cmp_plus x y r e = cmp_zero r (nat_lt 0 r) refl x y e

below_product : (h q r t : ℕ) → h < q → 0 < t → h * t < q * t + r
below_product h q r t l p =
    let more = mul-le-mul_right {m = h + 1} {n = q} t (omega (arith, l)) in
    let one : (h + 1) * t ≡ h * t + t = add-mul h 1 t ∙ ap (λ k. h * t + k) (one_times t) in
    omega (arith, more, one, p)

above_product : (h q r t : ℕ) → q < h → r < t → q * t + r < h * t
above_product h q r t l s =
    let more = mul-le-mul_right {m = q + 1} {n = h} t (omega (arith, l)) in
    let one : (q + 1) * t ≡ q * t + t = add-mul q 1 t ∙ ap (λ k. q * t + k) (one_times t) in
    omega (arith, more, one, s)

parted_at : (h q r t : ℕ) (less more : Bool) → nat_lt h q ≡ less → nat_lt q h ≡ more → r < t → ordering_then (nat_cmp h q) (nat_cmp 0 r) ≡ nat_cmp (h * t) (q * t + r)
parted_at h q r t true more a b s =
    let l : h < q = grind (arith, common_steps) in
    ap (λ o. ordering_then o (nat_cmp 0 r)) (cmp_less h q l) ∙ sym (cmp_less (h * t) (q * t + r) (below_product h q r t l (omega (arith, s))))
parted_at h q r t false true a b s =
    let l : q < h = grind (arith, common_steps) in
    ap (λ o. ordering_then o (nat_cmp 0 r)) (cmp_more h q l) ∙ sym (cmp_more (h * t) (q * t + r) (above_product h q r t l s))
parted_at h q r t false false a b s =
    let e : h ≡ q = grind (arith, common_steps) in
    ap (λ o. ordering_then o (nat_cmp 0 r)) (cmp_equal h q e) ∙ cmp_plus (h * t) (q * t) r (ap (λ k. k * t) e)

pub parted : (h q r t other : ℕ) → other ≡ q * t + r → r < t → ordering_then (nat_cmp h q) (nat_cmp 0 r) ≡ nat_cmp (h * t) other
parted h q r t other e s = parted_at h q r t (nat_lt h q) (nat_lt q h) refl refl s ∙ ap (nat_cmp (h * t)) (sym e)

-- ---- times a number

cmp_times_at : (x y t : ℕ) (less more : Bool) → nat_lt x y ≡ less → nat_lt y x ≡ more → 0 < t → nat_cmp (x * t) (y * t) ≡ nat_cmp x y
cmp_times_at x y t true more a b p =
    let l : x < y = grind (arith, common_steps) in
    let m = below_product x y 0 t l p in
    cmp_less (x * t) (y * t) (omega (arith, m)) ∙ sym (cmp_less x y l)
cmp_times_at x y t false true a b p =
    let l : y < x = grind (arith, common_steps) in
    let m = below_product y x 0 t l p in
    cmp_more (x * t) (y * t) (omega (arith, m)) ∙ sym (cmp_more x y l)
cmp_times_at x y t false false a b p =
    let e : x ≡ y = grind (arith, common_steps) in
    cmp_equal (x * t) (y * t) (ap (λ k. k * t) e) ∙ sym (cmp_equal x y e)

pub cmp_times : (x y t : ℕ) → 0 < t → nat_cmp (x * t) (y * t) ≡ nat_cmp x y
cmp_times x y t p = cmp_times_at x y t (nat_lt x y) (nat_lt y x) refl refl p

-- a power of ten, in two steps
power_steps : (n i j k : ℕ) → i + j ≡ k → n * 10 ^ i * 10 ^ j ≡ n * 10 ^ k
power_steps n i j k e = mul_assoc n (10 ^ i) (10 ^ j) ∙ ap (λ z. n * z) (sym (pow-add 10 i j)) ∙ ap (λ z. n * 10 ^ z) e

-- the number with the greater power is taken down to the other's
pub cmp_aligned : (x y i j : ℕ) → j ≤ i → nat_cmp (x * 10 ^ (i - j)) y ≡ nat_cmp (x * 10 ^ i) (y * 10 ^ j)
cmp_aligned x y i j l = sym (cmp_times (x * 10 ^ (i - j)) y (10 ^ j) (ten_pos j)) ∙ ap (λ z. nat_cmp z (y * 10 ^ j)) (power_steps x (i - j) j i (omega (arith, l)))

reversed_at : (x y : ℕ) (less more : Bool) → nat_lt x y ≡ less → nat_lt y x ≡ more → ordering_reverse (nat_cmp x y) ≡ nat_cmp y x
reversed_at x y true more a b = let l : x < y = grind (arith, common_steps) in ap ordering_reverse (cmp_less x y l) ∙ sym (cmp_more y x l)
reversed_at x y false true a b = let l : y < x = grind (arith, common_steps) in ap ordering_reverse (cmp_more x y l) ∙ sym (cmp_less y x l)
reversed_at x y false false a b = let e : x ≡ y = grind (arith, common_steps) in ap ordering_reverse (cmp_equal x y e) ∙ sym (cmp_equal y x (sym e))

pub reversed : (x y : ℕ) → ordering_reverse (nat_cmp x y) ≡ nat_cmp y x
reversed x y = reversed_at x y (nat_lt x y) (nat_lt y x) refl refl

-- ---- signs

some_product : (a b i j : ℕ) → a + b ≢ 0 → 0 < a * 10 ^ i + b * 10 ^ j
some_product zero zero i j some = absurd (some refl)
some_product zero (suc b) i j some = let h = mul-pos {m = suc b} {n = 10 ^ j} (omega arith) (ten_pos j) in omega (arith, h)
some_product (suc a) b i j some = let h = mul-pos {m = suc a} {n = 10 ^ i} (omega arith) (ten_pos i) in omega (arith, h)

pub negative_less : (d e : Decimal) → d.negative ≡ true → e.negative ≡ false → d.coefficient + e.coefficient ≢ 0 → Less ≡ signed_cmp (units d) (units e)
negative_less d e n m some =
    let x = d.coefficient * 10 ^ d.scale in
    let y = e.coefficient * 10 ^ e.scale in
    let h = some_product d.coefficient e.coefficient d.scale e.scale some in
    sym (ap (λ b. signed_cmp (signed b x) (signed e.negative y)) n ∙ ap (λ b. signed_cmp (signed true x) (signed b y)) m ∙ cmp_less (0 + 0) (y + x) (omega (arith, h)))

pub positive_more : (d e : Decimal) → d.negative ≡ false → e.negative ≡ true → d.coefficient + e.coefficient ≢ 0 → Greater ≡ signed_cmp (units d) (units e)
positive_more d e n m some =
    let x = d.coefficient * 10 ^ d.scale in
    let y = e.coefficient * 10 ^ e.scale in
    let h = some_product d.coefficient e.coefficient d.scale e.scale some in
    sym (ap (λ b. signed_cmp (signed b x) (signed e.negative y)) n ∙ ap (λ b. signed_cmp (signed false x) (signed b y)) m ∙ cmp_more (x + y) (0 + 0) (omega (arith, h)))

-- ---- values

pub times : Signed → ℕ → Signed
times x k = record { plus = x.plus * k; minus = x.minus * k }

signed_times : (b : Bool) (n k : ℕ) → signed b (n * k) ≡ times (signed b n) k
unfolding times
signed_times true n k = let z : 0 ≡ 0 * k = omega arith in ap (λ p. record { plus = p; minus = n * k }) z
signed_times false n k = let z : 0 ≡ 0 * k = omega arith in ap (λ m. record { plus = n * k; minus = m }) z

pub signed_cmp_times : (x y : Signed) (k : ℕ) → 0 < k → signed_cmp (times x k) (times y k) ≡ signed_cmp x y
unfolding times
signed_cmp_times x y k p = ap (λ z. nat_cmp z (y.plus * k + x.minus * k)) (sym (add-mul x.plus y.minus k)) ∙ ap (nat_cmp ((x.plus + y.minus) * k)) (sym (add-mul y.plus x.minus k)) ∙ cmp_times (x.plus + y.minus) (y.plus + x.minus) k p

-- a signed number times a power of ten, in two steps
pub signed_steps : (b : Bool) (n i j k : ℕ) → i + j ≡ k → times (signed b (n * 10 ^ i)) (10 ^ j) ≡ signed b (n * 10 ^ k)
signed_steps b n i j k e = sym (signed_times b (n * 10 ^ i) (10 ^ j)) ∙ ap (signed b) (power_steps n i j k e)

-- what a decimal means, times a further power of ten
means_more : (d : Decimal) (s : List ℕ) (k : ℕ) → HasValue d s → times (units d) (10 ^ (point_left s + k)) ≡ scaled s (point_right s + LARGEST_EXPONENT + k)
means_more d s k m =
    let d_all : d.scale + (point_left s + k) ≡ d.scale + point_left s + k = omega arith in
    signed_steps d.negative d.coefficient d.scale (point_left s + k) (d.scale + point_left s + k) d_all
    ∙ sym (signed_steps d.negative d.coefficient (d.scale + point_left s) k (d.scale + point_left s + k) refl)
    ∙ ap (λ z. times z (10 ^ k)) m
    ∙ signed_steps (is_negative s) (digits_value (all_digits s)) (point_right s + LARGEST_EXPONENT) k (point_right s + LARGEST_EXPONENT + k) refl

-- a spelling's number, times a further power of ten
scaled_more : (s : List ℕ) (k : ℕ) → times (scaled s (point_right s + k)) (10 ^ LARGEST_EXPONENT) ≡ scaled s (point_right s + LARGEST_EXPONENT + k)
scaled_more s k = signed_steps (is_negative s) (digits_value (all_digits s)) (point_right s + k) LARGEST_EXPONENT (point_right s + LARGEST_EXPONENT + k) (omega arith)

pub spelled_order : (d e : Decimal) (s t : List ℕ) → HasValue d s → HasValue e t → signed_cmp (units d) (units e) ≡ order s t
spelled_order d e s t m n =
    let both = point_left s + point_left t in
    let swap : point_left t + point_left s ≡ both = omega arith in
    sym (signed_cmp_times (units d) (units e) (10 ^ both) (ten_pos both))
    ∙ ap (λ z. signed_cmp z (times (units e) (10 ^ both))) (means_more d s (point_left t) m)
    ∙ ap (λ z. signed_cmp (scaled s (point_right s + LARGEST_EXPONENT + point_left t)) z) (ap (λ k. times (units e) (10 ^ k)) (sym swap) ∙ means_more e t (point_left s) n)
    ∙ ap (λ z. signed_cmp z (scaled t (point_right t + LARGEST_EXPONENT + point_left s))) (sym (scaled_more s (point_left t)))
    ∙ ap (λ z. signed_cmp (times (scaled s (point_right s + point_left t)) (10 ^ LARGEST_EXPONENT)) z) (sym (scaled_more t (point_left s)))
    ∙ signed_cmp_times (scaled s (point_right s + point_left t)) (scaled t (point_right t + point_left s)) (10 ^ LARGEST_EXPONENT) (ten_pos LARGEST_EXPONENT)
