-- Texts in which nothing is escaped: those of ids and of moments.
use Rattle.std.proofs.Common.{◌≡◌, ◌<◌, ◌≤◌, ◌+◌, ◌-◌, ◌/◌, ◌%◌, ℕ, zero, suc, List, [], ◌∷◌, ◌++◌, Bool, true, false, if◌then◌else◌, length, refl, sym, ap, subst, ◌∙◌, arith}
use Rattle.std.specs.Char.{digit_value}
use Rattle.std.specs.List.{flat_map}
use Rattle.std.proofs.lemmas.Bool.{agree_below_at}
use Rattle.std.proofs.lemmas.Grind.{common_steps, flat_map-append}
use Rattle.uuid.specs.Text.{by_index, digit_place, hex_digit, hyphen, is_hyphen_place, lower, nibble}
use Rattle.uuid.proofs.TextLemmas.{nibble_small}
use Rattle.lrs_json.specs.Written.{escaped, is_plain}
use Rattle.xapi_values.specs.LrsNamesIds.{id_text}
use Rattle.xapi_values.specs.LrsTimeDigits.{two_digits}
use Rattle.xapi_values.specs.LrsTimeTimestamp.{IsFractionOfSecond, IsMomentText, Zone, stamp_text, utc}

-- what stands for it in a string is the text itself
abbrev pub IsPlain : List ℕ → Type 0
IsPlain text = flat_map escaped text ≡ text

escaped_plain : (b : ℕ) → is_plain b ≡ true → escaped b ≡ b ∷ []
unfolding escaped
escaped_plain b p = grind (arith, common_steps)

plain_more : (b : ℕ) (bs : List ℕ) → is_plain b ≡ true → IsPlain bs → IsPlain (b ∷ bs)
plain_more b bs p all = ap (λ t. t ++ flat_map escaped bs) (escaped_plain b p) ∙ ap (λ t. b ∷ t) all

-- ---- ids

plain_by_index : (n : ℕ) (f : ℕ → ℕ) → ((k : ℕ) → is_plain (f k) ≡ true) → IsPlain (by_index n f)
unfolding by_index
plain_by_index zero f h = refl
plain_by_index (suc n) f h =
    flat_map-append escaped (by_index n f) (f n ∷ []) ∙ (ap (λ t. t ++ flat_map escaped (f n ∷ [])) (plain_by_index n f h)
    ∙ ap (λ t. by_index n f ++ t) (plain_more (f n) [] (h n) refl))

plain_hex : (d : ℕ) → d < 16 → is_plain (hex_digit lower d) ≡ true
plain_hex d small = agree_below_at (λ k. is_plain (hex_digit lower k)) (λ _. true) 16 d refl small

plain_either : (hyphened : Bool) (d : ℕ) → d < 16 → is_plain (if hyphened then hyphen else hex_digit lower d) ≡ true
plain_either true d small = refl
plain_either false d small = plain_hex d small

pub plain_id : (id : List ℕ) → IsPlain (id_text id)
plain_id id =
    plain_by_index 36 (λ k. if is_hyphen_place k then hyphen else hex_digit lower (nibble id (digit_place k)))
    (λ k. plain_either (is_hyphen_place k) (nibble id (digit_place k)) (nibble_small id (digit_place k)))

-- ---- moments

plain_numeral : (d : ℕ) → d < 10 → is_plain (48 + d) ≡ true
plain_numeral d small = agree_below_at (λ k. is_plain (48 + k)) (λ _. true) 10 d refl small

digit_range : (b : ℕ) → digit_value b < 10 → (48 ≤ b) × (b ≤ 57)
digit_range b h = grind arith

plain_digit : (b : ℕ) → digit_value b < 10 → is_plain b ≡ true
plain_digit b h =
    let range = digit_range b h in
    let is : 48 + (b - 48) ≡ b = omega arith in
    subst (λ x. is_plain x ≡ true) is (plain_numeral (b - 48) (omega arith))

plain_two : (n : ℕ) (rest : List ℕ) → n < 100 → IsPlain rest → IsPlain (two_digits n ++ rest)
plain_two n rest small all =
    plain_more (48 + n / 10) ((48 + n % 10) ∷ rest) (plain_numeral (n / 10) (omega arith)) (plain_more (48 + n % 10) rest (plain_numeral (n % 10) (omega arith)) all)

-- a mark, and two digits behind it
abbrev marked : ℕ → ℕ → List ℕ → List ℕ
marked mark n rest = mark ∷ (two_digits n ++ rest)

plain_marked : (mark n : ℕ) (rest : List ℕ) → is_plain mark ≡ true → n < 100 → IsPlain rest → IsPlain (marked mark n rest)
plain_marked mark n rest p small all = plain_more mark (two_digits n ++ rest) p (plain_two n rest small all)

abbrev fraction_of : (a b e : ℕ) → List ℕ
fraction_of a b e = 46 ∷ a ∷ b ∷ e ∷ 90 ∷ []

plain_fraction : (a b e : ℕ) → is_plain a ≡ true → is_plain b ≡ true → is_plain e ≡ true → IsPlain (fraction_of a b e)
plain_fraction a b e pa pb pe =
    plain_more 46 (a ∷ b ∷ e ∷ 90 ∷ []) refl (plain_more a (b ∷ e ∷ 90 ∷ []) pa (plain_more b (e ∷ 90 ∷ []) pb (plain_more e (90 ∷ []) pe (plain_more 90 [] refl refl))))

abbrev clock_of : (h n c a b e : ℕ) → List ℕ
clock_of h n c a b e = marked 84 h (marked 58 n (marked 58 c (fraction_of a b e)))

plain_clock : (h n c a b e : ℕ) → h < 24 → n < 60 → c < 60 → IsPlain (fraction_of a b e) → IsPlain (clock_of h n c a b e)
plain_clock h n c a b e lh ln lc plain =
    plain_marked 84 h (marked 58 n (marked 58 c (fraction_of a b e))) refl (omega arith) (plain_marked 58 n (marked 58 c (fraction_of a b e)) refl (omega arith) (plain_marked 58 c (fraction_of a b e) refl (omega arith) plain))

plain_date : (y m d : ℕ) (rest : List ℕ) → y < 10000 → m < 100 → d < 100 → IsPlain rest → IsPlain (two_digits (y / 100) ++ (two_digits (y % 100) ++ marked 45 m (marked 45 d rest)))
plain_date y m d rest ly lm ld plain =
    plain_two (y / 100) (two_digits (y % 100) ++ marked 45 m (marked 45 d rest)) (omega arith) (plain_two (y % 100) (marked 45 m (marked 45 d rest)) (omega arith)
    (plain_marked 45 m (marked 45 d rest) refl lm (plain_marked 45 d rest refl ld plain)))

at_three : (y m d h n c : ℕ) (f : List ℕ) (z : Zone) → y < 10000 → m < 100 → d < 100 → h < 24 → n < 60 → c < 60 → length f ≡ 3 → IsFractionOfSecond f → z ≡ utc
    → IsPlain (stamp_text (record { year = y; month = m; day = d; hour = h; minute = n; second = c; fraction = f; zone = z }))
at_three y m d h n c [] z ly lm ld lh ln lc l is u = absurd (omega arith)
at_three y m d h n c (a ∷ []) z ly lm ld lh ln lc l is u = absurd (omega arith)
at_three y m d h n c (a ∷ b ∷ []) z ly lm ld lh ln lc l is u = absurd (omega arith)
at_three y m d h n c (a ∷ b ∷ e ∷ []) z ly lm ld lh ln lc l is u =
    let fraction = plain_fraction a b e (plain_digit a is.digits.0) (plain_digit b is.digits.1.0) (plain_digit e is.digits.1.1.0) in
    let whole : IsPlain (stamp_text (record { year = y; month = m; day = d; hour = h; minute = n; second = c; fraction = a ∷ b ∷ e ∷ []; zone = utc })) =
    plain_date y m d (clock_of h n c a b e) ly lm ld (plain_clock h n c a b e lh ln lc fraction) in
    subst (λ w. IsPlain (stamp_text (record { year = y; month = m; day = d; hour = h; minute = n; second = c; fraction = a ∷ b ∷ e ∷ []; zone = w }))) (sym u) whole
at_three y m d h n c (a ∷ b ∷ e ∷ g ∷ more) z ly lm ld lh ln lc l is u = absurd (omega arith)

pub plain_moment : (m : ℕ) (text : List ℕ) → IsMomentText m text → IsPlain text
plain_moment m text (s, p, day, long, zone, at) =
    subst (λ (t : List ℕ). IsPlain t) (sym p.spelling) (at_three s.year s.month s.day s.hour s.minute s.second s.fraction s.zone p.parts.year p.parts.month p.parts.day p.parts.hour p.parts.minute p.parts.second long p.parts.fraction zone)
