-- Digits, and the whole numbers that they write.
use Rattle.std.proofs.Common.{◌≡◌, ℕ, zero, suc, ◌+◌, ◌-◌, ◌*◌, ◌^◌, ◌<◌, ◌≤◌, List, [], ◌∷◌, length, take, get_or, lit≤, arith}
use Rattle.std.specs.Char.{digit_value}
use Rattle.std.specs.Str.Parse.{AllDigits, digits_value}
use Rattle.std.proofs.lemmas.Int.Digits.{digits_value_more}
use Rattle.std.proofs.lemmas.Nat.{pow-add}
use Rattle.std.proofs.Math.Nat.{pow-le-pow_right}

pub digit_range : (b : ℕ) → digit_value b < 10 → (48 ≤ b) × (b ≤ 57) × (digit_value b ≡ b - 48)
digit_range b h = grind arith

digit_at : (ds : List ℕ) (i : ℕ) → AllDigits 10 ds → i < length ds → digit_value (get_or ds i 0) < 10
digit_at [] i all lt = absurd (omega arith)
digit_at (d ∷ ds) zero all lt = all.0
digit_at (d ∷ ds) (suc i) all lt = digit_at ds i all.1 (omega arith)

pub pow_le : (i k : ℕ) → i ≤ k → 10 ^ i ≤ 10 ^ k
pow_le i k h = pow-le-pow_right (lit≤ tt) h

-- one digit more of the number that nineteen digits write
pub number_step : (ds : List ℕ) (i v : ℕ) → AllDigits 10 ds → length ds ≤ 19 → i < length ds → v ≡ digits_value 10 (take i ds) → v < 10 ^ i
    → (48 ≤ get_or ds i 0) × (v < 10 ^ 18) × (v * 10 + (get_or ds i 0 - 48) < 10 ^ 19)
    × (v * 10 + (get_or ds i 0 - 48) ≡ digits_value 10 (take (i + 1) ds)) × (v * 10 + (get_or ds i 0 - 48) < 10 ^ (i + 1))
number_step ds i v all few lt is small =
    let d = digit_range (get_or ds i 0) (digit_at ds i all lt) in
    let top = pow_le i 18 (omega arith) in
    let up = pow-add 10 i 1 in
    let more = digits_value_more 10 ds i lt in
    (d.0, omega arith, omega arith, omega arith, omega arith)
