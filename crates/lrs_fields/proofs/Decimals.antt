-- What is written of a number of up to fifteen digits is a number of JSON, and in range.
use Rattle.std.proofs.Common.{◌≡◌, ◌≢◌, ℕ, zero, suc, ◌+◌, ◌<◌, ◌≤◌, ◌^◌, ◌==◌, ◌&&◌, ◌||◌, nat_le, List, [], ◌∷◌, length, take, drop, reverse, get_or, not, Bool, true, false, arith, inl, inr, refl, ap, sym, ◌∙◌, append-nil}
use Rattle.std.proofs.Math.Bool.{or-true}
use Rattle.std.specs.Fmt.{decimal}
use Rattle.std.specs.List.{filter, prefix_len}
use Rattle.std.proofs.lemmas.Bool.Decides.{nat_tests}
use Rattle.std.proofs.lemmas.Fmt.{decimal_digit, decimal_nonempty, digits_decimal, first_decimal, length-decimal-le}
use Rattle.std.proofs.lemmas.List.{length-reverse}
use Rattle.std.proofs.lemmas.List.Sums.{prefix_len-le-length}
use Rattle.std.proofs.lemmas.Str.Parse.{IsDigitsTest, numerals_by_value}
use Rattle.std.proofs.Math.Seq.{take-length}
use Rattle.lrs_decimal.specs.Numbers.{Each, IsWhole, is_digit, unsigned, without}
use Rattle.lrs_decimal.specs.Parts.{all_digits, before, begins_with, behind, behind_first, exponent_digits, fraction_digits, has_negative_exponent, is_e, is_point, point_left, point_right}
use Rattle.lrs_decimal.specs.Range.{is_in_range, is_zero, is_zero_digit, significant_digits, trailing_zeros}
use Rattle.lrs_json.specs.Fits.{Fits}
use Rattle.lrs_json.specs.Json.{number}

tells_each : IsDigitsTest (Each is_digit)
tells_each = record {
  empty = tt;
  parts = λ c cs h. (grind (arith, nat_tests), h.1);
  more = λ c cs range h. (grind (arith, nat_tests), h);
}

are_digits : (n : ℕ) → n < 2 ^ 64 → Each is_digit (decimal n)
are_digits n small = digits_decimal (numerals_by_value (Each is_digit) tells_each) n small

whole_digits : (ds : List ℕ) → 0 < length ds → Each is_digit ds → 48 < get_or ds 0 0 → IsWhole ds
whole_digits [] some digits first = absurd (omega (arith, some))
whole_digits (b ∷ bs) some digits first = let other : b ≢ 48 = λ e. omega (arith, e, first) in inr (other, digits)

is_whole : (n : ℕ) → n < 2 ^ 64 → IsWhole (decimal n)
is_whole zero small = rw (decimal_digit 0 (omega arith)) (inl (refl, refl))
is_whole (suc n) small = whole_digits (decimal (suc n)) (decimal_nonempty (suc n) small) (are_digits (suc n) small) (first_decimal (suc n) (omega arith) small)

no_sign : (ds : List ℕ) → Each is_digit ds → without 45 ds ≡ ds
no_sign [] digits = refl
no_sign (b ∷ bs) digits = let other : (b == 45) ≡ false = grind (arith, nat_tests) in rw other refl

keeps : (p q : ℕ → Bool) → ((b : ℕ) → p b ≡ true → q b ≡ true) → (ds : List ℕ) → Each p ds → Each q ds
keeps p q each [] h = tt
keeps p q each (b ∷ bs) h = (each b h.0, keeps p q each bs h.1)

whole_run : (p : ℕ → Bool) (ds : List ℕ) → Each p ds → prefix_len p ds ≡ length ds
whole_run p [] each = refl
whole_run p (b ∷ bs) each = let rest = whole_run p bs each.1 in rw (each.0) (omega (arith, rest))

drop-all : (ds : List ℕ) → drop (length ds) ds ≡ []
drop-all [] = refl
drop-all (d ∷ ds) = drop-all ds

-- nothing passes, so all stands before
all_before : (p : ℕ → Bool) (ds : List ℕ) → Each (λ b. not (p b)) ds → before p ds ≡ ds
all_before p ds each = ap (λ n. take n ds) (whole_run (λ b. not (p b)) ds each) ∙ take-length ds

none_behind : (p : ℕ → Bool) (ds : List ℕ) → Each (λ b. not (p b)) ds → behind p ds ≡ []
none_behind p ds each = ap (λ n. behind_first (drop n ds)) (whole_run (λ b. not (p b)) ds each) ∙ ap behind_first (drop-all ds)

no_e : (ds : List ℕ) → Each is_digit ds → Each (λ b. not (is_e b)) ds
no_e ds digits = keeps is_digit (λ b. not (is_e b)) (λ b h. grind (arith, nat_tests)) ds digits

no_point : (ds : List ℕ) → Each is_digit ds → Each (λ b. not (is_point b)) ds
no_point ds digits = keeps is_digit (λ b. not (is_point b)) (λ b h. grind (arith, nat_tests)) ds digits

all_digits_stay : (ds : List ℕ) → Each is_digit ds → filter is_digit ds ≡ ds
all_digits_stay [] digits = refl
all_digits_stay (d ∷ ds) digits = rw (digits.0) (ap (λ more. d ∷ more) (all_digits_stay ds digits.1))

-- the test of a range, over the parts of a spelling
abbrev passes : ℕ → List ℕ → List ℕ → ℕ → ℕ → Bool
passes long exponent digits right left =
    nat_le long 64 && nat_le (length exponent) 4
    && (is_zero digits || (nat_le (significant_digits digits) 34 && (nat_le left (right + trailing_zeros digits + 999) && nat_le (right + trailing_zeros digits) (left + 999))))

few_digits_pass : (ds : List ℕ) → length ds ≤ 15 → passes (length ds) [] ds 0 0 ≡ true
few_digits_pass ds short =
    let few : trailing_zeros ds ≤ 15 = omega (arith, short, prefix_len-le-length is_zero_digit (reverse ds), length-reverse ds) in
    let long : nat_le (length ds) 64 ≡ true = grind (arith, nat_tests) in
    let significant : nat_le (significant_digits ds) 34 ≡ true = grind (arith, nat_tests) in
    let low : nat_le 0 (0 + trailing_zeros ds + 999) ≡ true = grind (arith, nat_tests) in
    let high : nat_le (0 + trailing_zeros ds) (0 + 999) ≡ true = grind (arith, nat_tests) in
    rw (long, significant, low, high) (or-true (is_zero ds))

in_range : (ds : List ℕ) → Each is_digit ds → length ds ≤ 15 → is_in_range ds ≡ true
in_range ds digits short =
    let front : before is_e ds ≡ ds = all_before is_e ds (no_e ds digits) in
    let part : behind is_e ds ≡ [] = none_behind is_e ds (no_e ds digits) in
    let all : all_digits ds ≡ ds = ap (λ text. filter is_digit text) front ∙ all_digits_stay ds digits in
    let fraction : fraction_digits ds ≡ [] = ap (behind is_point) front ∙ none_behind is_point ds (no_point ds digits) in
    let exponent : exponent_digits ds ≡ [] = ap unsigned part in
    let positive : has_negative_exponent ds ≡ false = ap (begins_with 45) part in
    let right : point_right ds ≡ 0 = rw (positive, exponent) refl in
    let left : point_left ds ≡ 0 = rw (positive, fraction) refl in
    ap (λ e. passes (length ds) e (all_digits ds) (point_right ds) (point_left ds)) exponent
    ∙ ap (λ a. passes (length ds) [] a (point_right ds) (point_left ds)) all
    ∙ ap (λ r. passes (length ds) [] ds r (point_left ds)) right
    ∙ ap (λ l. passes (length ds) [] ds 0 l) left
    ∙ few_digits_pass ds short

pub Fits-decimal : (n : ℕ) → n < 10 ^ 15 → Fits (number (decimal n))
Fits-decimal n small =
    let fits : n < 2 ^ 64 = omega (arith, small) in
    let digits = are_digits n fits in
    let short : length (decimal n) ≤ 15 = length-decimal-le 15 n (omega arith) small fits in
    ((decimal n, [], [], is_whole n fits, tt, tt, no_sign (decimal n) digits ∙ sym (append-nil (decimal n))), in_range (decimal n) digits short)
