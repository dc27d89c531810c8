-- The text of a moment is ASCII.
use Rattle.std.proofs.Common.{◌≡◌, ℕ, ◌<◌, List, [], ◌∷◌, length, IsUtf8, arith, sym, subst}
use Rattle.std.specs.List.{AllByRecursion}
use Rattle.std.proofs.lemmas.List.Elements.{All-from_recursion}
use Rattle.std.proofs.lemmas.Str.{IsUtf8-from_ascii}
use Rattle.std.proofs.lemmas.Str.Ascii.{IsAscii-from_all}
use Rattle.lrs_time.specs.Timestamp.{Zone, utc, stamp_text, IsFractionOfSecond, IsMomentText}
use Rattle.lrs_decimal.proofs.NumeralLemmas.{digit_range}

abbrev stamp_of : (y m d h n c a b e : ℕ) → List ℕ
stamp_of y m d h n c a b e = stamp_text (record { year = y; month = m; day = d; hour = h; minute = n; second = c; fraction = a ∷ b ∷ e ∷ []; zone = utc })

each_small : (y m d h n c a b e : ℕ) → y < 10000 → m < 100 → d < 100 → h < 24 → n < 60 → c < 60 → a < 128 → b < 128 → e < 128 → AllByRecursion (λ x. x < 128) (stamp_of y m d h n c a b e)
each_small y m d h n c a b e ly lm ld lh ln lc la lb le =
    (omega arith, (omega arith, (omega arith, (omega arith, (omega arith, (omega arith, (omega arith, (omega arith, (omega arith, (omega arith, (omega arith, (omega arith, (omega arith, (omega arith, (omega arith, (omega arith, (omega arith, (omega arith, (omega arith, (omega arith, (omega arith, (omega arith, (omega arith, (omega arith, tt))))))))))))))))))))))))

at_three : (y m d h n c : ℕ) (f : List ℕ) (z : Zone) → y < 10000 → m < 100 → d < 100 → h < 24 → n < 60 → c < 60 → length f ≡ 3 → IsFractionOfSecond f → z ≡ utc
    → IsUtf8 (stamp_text (record { year = y; month = m; day = d; hour = h; minute = n; second = c; fraction = f; zone = z }))
at_three y m d h n c [] z ly lm ld lh ln lc l is u = absurd (omega arith)
at_three y m d h n c (a ∷ []) z ly lm ld lh ln lc l is u = absurd (omega arith)
at_three y m d h n c (a ∷ b ∷ []) z ly lm ld lh ln lc l is u = absurd (omega arith)
at_three y m d h n c (a ∷ b ∷ e ∷ []) z ly lm ld lh ln lc l is u =
    let ra = digit_range a is.digits.0 in
    let rb = digit_range b is.digits.1.0 in
    let re = digit_range e is.digits.1.1.0 in
    let small = each_small y m d h n c a b e ly lm ld lh ln lc (omega arith) (omega arith) (omega arith) in
    let whole : IsUtf8 (stamp_of y m d h n c a b e) = IsUtf8-from_ascii (stamp_of y m d h n c a b e) (IsAscii-from_all (stamp_of y m d h n c a b e) (All-from_recursion (λ x. x < 128) (stamp_of y m d h n c a b e) small)) in
    subst (λ w. IsUtf8 (stamp_text (record { year = y; month = m; day = d; hour = h; minute = n; second = c; fraction = a ∷ b ∷ e ∷ []; zone = w }))) (sym u) whole
at_three y m d h n c (a ∷ b ∷ e ∷ g ∷ more) z ly lm ld lh ln lc l is u = absurd (omega arith)

pub IsUtf8-moment : (m : ℕ) (text : List ℕ) → IsMomentText m text → IsUtf8 text
IsUtf8-moment m text (s, p, day, long, zone, at) =
    subst IsUtf8 (sym p.spelling) (at_three s.year s.month s.day s.hour s.minute s.second s.fraction s.zone p.parts.year p.parts.month p.parts.day p.parts.hour p.parts.minute p.parts.second long p.parts.fraction zone)
