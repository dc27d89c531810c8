-- Digits, runs of them, and the numbers that they stand for.
use Rattle.std.proofs.Common.{◌≡◌, ℕ, zero, suc, ◌+◌, ◌-◌, ◌*◌, ◌^◌, ◌<◌, ◌≤◌, List, [], ◌∷◌, ◌++◌, Bool, true, false, length, take, drop, cond, ◌&&◌, nat_le, Some, refl, sym, ap, ◌∙◌, subst, lit≤, arith}
use Rattle.std.specs.List.{prefix_len}
use Rattle.std.specs.Char.{is_ascii_digit, digit_value}
use Rattle.std.specs.Str.Parse.{AllDigits}
use Rattle.std.proofs.lemmas.Nat.{pow-add}
use Rattle.std.proofs.Math.Nat.{one-le-pow, mul-le-mul_right}
use Rattle.std.proofs.lemmas.Option.{cond_some}
use Rattle.std.proofs.lemmas.List.{take-append-drop}
use Rattle.std.proofs.lemmas.List.Folds.{length-prefix_len}
use Rattle.lrs_time.specs.Digits.{IsNumeral}
use Rattle.lrs_time.specs.Reading.{numeral_at}
use Rattle.lrs_decimal.proofs.Runs.{drop_front, take_front}

-- ---- one digit

pub digit_test : (b : ℕ) → digit_value b < 10 → is_ascii_digit b ≡ true
digit_test b h = grind arith

pub test_digit : (b : ℕ) → is_ascii_digit b ≡ true → digit_value b < 10
test_digit b h = grind arith

-- ---- runs

run_at : (b : ℕ) (bs : List ℕ) (t : Bool) → is_ascii_digit b ≡ t → AllDigits 10 (take (prefix_len is_ascii_digit bs) bs) → AllDigits 10 (take (cond t (1 + prefix_len is_ascii_digit bs) 0) (b ∷ bs))
run_at b bs true e all = let one : 1 + prefix_len is_ascii_digit bs ≡ suc (prefix_len is_ascii_digit bs) = omega arith in rw one (test_digit b e, all)
run_at b bs false e all = tt

-- the digits at the front are digits
pub AllDigits-run : (bs : List ℕ) → AllDigits 10 (take (prefix_len is_ascii_digit bs) bs)
AllDigits-run [] = tt
AllDigits-run (b ∷ bs) = run_at b bs (is_ascii_digit b) refl (AllDigits-run bs)

-- ---- numbers

-- a number of k digits, with noughts after it up to p digits
pub cut_fits : (v k p : ℕ) → v < 10 ^ k → k ≤ p → v * 10 ^ (p - k) < 10 ^ p
cut_fits v k p h le =
    let whole : 10 ^ k * 10 ^ (p - k) ≡ 10 ^ p = sym (pow-add 10 k (p - k)) ∙ ap (λ n. 10 ^ n) (omega arith) in
    let some : 1 ≤ 10 ^ (p - k) = one-le-pow (p - k) 10 (lit≤ tt) in
    let more : suc v * 10 ^ (p - k) ≤ 10 ^ k * 10 ^ (p - k) = mul-le-mul_right (10 ^ (p - k)) h in
    omega arith

pub length_take_le : (n : ℕ) (ds : List ℕ) → length (take n ds) ≤ n
length_take_le zero ds = omega arith
length_take_le (suc n) [] = omega arith
length_take_le (suc n) (d ∷ ds) = omega (arith, length_take_le n ds)

pub AllDigits-take : (n : ℕ) (ds : List ℕ) → AllDigits 10 ds → AllDigits 10 (take n ds)
AllDigits-take zero ds all = tt
AllDigits-take (suc n) [] all = tt
AllDigits-take (suc n) (d ∷ ds) all = (all.0, AllDigits-take n ds all.1)

-- ---- a run of digits, and what stops it

-- no digit comes first
abbrev pub Stops : List ℕ → Type 0
Stops [] = Unit {0}
Stops (b ∷ bs) = is_ascii_digit b ≡ false

len_stopped : (rest : List ℕ) → Stops rest → prefix_len is_ascii_digit rest ≡ 0
len_stopped [] stops = refl
len_stopped (b ∷ bs) stops = rw stops refl

pub len_again : (ds rest : List ℕ) → AllDigits 10 ds → Stops rest → prefix_len is_ascii_digit (ds ++ rest) ≡ length ds
len_again [] rest all stops = len_stopped rest stops
len_again (d ∷ ds) rest all stops = let passes = digit_test d all.0 in rw (passes, len_again ds rest all.1 stops) (omega arith)

few_true : (n most : ℕ) → 0 < n → n ≤ most → (nat_le 1 n && nat_le n most) ≡ true
few_true n most h k = grind arith

pub numeral_again : (most : ℕ) (ds rest : List ℕ) → IsNumeral most ds → Stops rest → numeral_at most (ds ++ rest) ≡ Some (ds, rest)
unfolding numeral_at
numeral_again most ds rest n stops =
    rw (len_again ds rest n.digits stops) (rw (few_true (length ds) most n.some n.few, take_front ds rest, drop_front ds rest) refl)

numeral_is : (most : ℕ) (text : List ℕ) → (nat_le 1 (prefix_len is_ascii_digit text) && nat_le (prefix_len is_ascii_digit text) most) ≡ true → IsNumeral most (take (prefix_len is_ascii_digit text) text)
numeral_is most text t =
    let long = length-prefix_len is_ascii_digit text in
    let len : (1 ≤ prefix_len is_ascii_digit text) × (prefix_len is_ascii_digit text ≤ most) = grind arith in
    record { digits = AllDigits-run text; some = omega arith; few = omega arith }

-- the bytes are digits, so many at most, and those after them
abbrev pub IsNumeralFront : ℕ → List ℕ → List ℕ × List ℕ → Type 0
IsNumeralFront most text n = IsNumeral most n.0 × (text ≡ n.0 ++ n.1)

pub numeral_found : (most : ℕ) (text : List ℕ) (n : List ℕ × List ℕ) → numeral_at most text ≡ Some n → IsNumeralFront most text n
unfolding numeral_at
numeral_found most text n e =
    let g = cond_some (nat_le 1 (prefix_len is_ascii_digit text) && nat_le (prefix_len is_ascii_digit text) most) (take (prefix_len is_ascii_digit text) text, drop (prefix_len is_ascii_digit text) text) n e in
    subst (IsNumeralFront most text) g.1 (numeral_is most text g.0, sym (take-append-drop (prefix_len is_ascii_digit text) text))
