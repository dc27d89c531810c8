-- A moment has one text.
use Rattle.std.proofs.Common.{◌≡◌, ℕ, ◌+◌, ◌*◌, ◌/◌, ◌<◌, ◌≤◌, ◌≤ℤ◌, List, [], ◌∷◌, length, ℤ, pos, refl, sym, ap, ◌∙◌, arith}
use Rattle.std.specs.Char.{digit_value}
use Rattle.std.specs.Str.Parse.{AllDigits, digits_value}
use Rattle.jiff_core.specs.declared.civil.date.Date.{Date}
use Rattle.jiff_core.specs.Calendar.{days_from_civil}
use Rattle.jiff_core.proofs.DateLemmas.{epoch_day_injective, epoch_day_range}
use Rattle.jiff_core.proofs.SignedLemmas.{signed_arith}
use Rattle.lrs_time.specs.Digits.{cut_fraction}
use Rattle.lrs_time.specs.Timestamp.{Stamp, stamp_text, IsStamp, HasDay, Zone, utc, is_west, zone_minutes, seconds_ahead, instant_of, nanoseconds, IsFractionOfSecond, IsMomentText}
use Rattle.lrs_decimal.proofs.NumeralLemmas.{digit_range}

-- ---- the parts of an instant

same_parts : (d e : ℤ) (s t n m : ℕ) → s < 86_400 → t < 86_400 → n < 1_000_000_000 → m < 1_000_000_000
    → nanoseconds d s (pos 0) n ≡ nanoseconds e t (pos 0) m → (d ≡ e) × (s ≡ t) × (n ≡ m)
same_parts d e s t n m a b f g h = (omega (arith, signed_arith), omega (arith, signed_arith), omega (arith, signed_arith))

same_clock : (h m s i n t : ℕ) → m < 60 → s < 60 → n < 60 → t < 60 → h * 3600 + m * 60 + s ≡ i * 3600 + n * 60 + t → (h ≡ i) × (m ≡ n) × (s ≡ t)
same_clock h m s i n t a b c d e = (omega arith, omega arith, omega arith)

-- ---- three digits

same_byte : (b c : ℕ) → digit_value b < 10 → digit_value c < 10 → digit_value b ≡ digit_value c → b ≡ c
same_byte b c x y e = let p = digit_range b x in let q = digit_range c y in omega arith

same_values : (x y z u v w : ℕ) → y < 10 → z < 10 → v < 10 → w < 10 → (x * 10 + y) * 10 + z ≡ (u * 10 + v) * 10 + w → (x ≡ u) × (y ≡ v) × (z ≡ w)
same_values x y z u v w a b c d e = (omega arith, omega arith, omega arith)

value_of_three : (a b c : ℕ) → digits_value 10 (a ∷ b ∷ c ∷ []) ≡ (digit_value a * 10 + digit_value b) * 10 + digit_value c
value_of_three a b c = omega arith

same_three : (a b c d e f : ℕ) → AllDigits 10 (a ∷ b ∷ c ∷ []) → AllDigits 10 (d ∷ e ∷ f ∷ [])
    → digits_value 10 (a ∷ b ∷ c ∷ []) ≡ digits_value 10 (d ∷ e ∷ f ∷ []) → a ∷ b ∷ c ∷ [] ≡ d ∷ e ∷ f ∷ []
same_three a b c d e f x y same =
    let v = same_values (digit_value a) (digit_value b) (digit_value c) (digit_value d) (digit_value e) (digit_value f) x.1.0 x.1.1.0 y.1.0 y.1.1.0
    (sym (value_of_three a b c) ∙ same ∙ value_of_three d e f) in
    λ i. same_byte a d x.0 y.0 v.0 i ∷ same_byte b e x.1.0 y.1.0 v.1 i ∷ same_byte c f x.1.1.0 y.1.1.0 v.2 i ∷ []

cut_of_three : (ds : List ℕ) → length ds ≡ 3 → cut_fraction 9 ds ≡ digits_value 10 ds * 1_000_000
cut_of_three [] e = absurd (omega arith)
cut_of_three (a ∷ []) e = absurd (omega arith)
cut_of_three (a ∷ b ∷ []) e = absurd (omega arith)
cut_of_three (a ∷ b ∷ c ∷ []) e = refl
cut_of_three (a ∷ b ∷ c ∷ d ∷ more) e = absurd (omega arith)

digits_of : (ds : List ℕ) → IsFractionOfSecond ds → AllDigits 10 ds
digits_of [] h = tt
digits_of (d ∷ ds) h = h.digits

small_three : (a b c : ℕ) → AllDigits 10 (a ∷ b ∷ c ∷ []) → digits_value 10 (a ∷ b ∷ c ∷ []) < 1000
small_three a b c x = let v = value_of_three a b c in let p = x.0 in let q = x.1.0 in let r = x.1.1.0 in omega arith

small_fraction : (ds : List ℕ) → AllDigits 10 ds → length ds ≡ 3 → digits_value 10 ds < 1000
small_fraction [] x e = absurd (omega arith)
small_fraction (a ∷ []) x e = absurd (omega arith)
small_fraction (a ∷ b ∷ []) x e = absurd (omega arith)
small_fraction (a ∷ b ∷ c ∷ []) x e = small_three a b c x
small_fraction (a ∷ b ∷ c ∷ d ∷ more) x e = absurd (omega arith)

same_fraction : (ds es : List ℕ) → AllDigits 10 ds → AllDigits 10 es → length ds ≡ 3 → length es ≡ 3 → digits_value 10 ds ≡ digits_value 10 es → ds ≡ es
same_fraction (a ∷ b ∷ c ∷ []) (d ∷ e ∷ f ∷ []) x y p q same = same_three a b c d e f x y same
same_fraction [] es x y p q same = absurd (omega arith)
same_fraction (a ∷ []) es x y p q same = absurd (omega arith)
same_fraction (a ∷ b ∷ []) es x y p q same = absurd (omega arith)
same_fraction (a ∷ b ∷ c ∷ g ∷ more) es x y p q same = absurd (omega arith)
same_fraction (a ∷ b ∷ c ∷ []) [] x y p q same = absurd (omega arith)
same_fraction (a ∷ b ∷ c ∷ []) (d ∷ []) x y p q same = absurd (omega arith)
same_fraction (a ∷ b ∷ c ∷ []) (d ∷ e ∷ []) x y p q same = absurd (omega arith)
same_fraction (a ∷ b ∷ c ∷ []) (d ∷ e ∷ f ∷ g ∷ more) x y p q same = absurd (omega arith)

-- ---- the whole

date_of : (s : Stamp) → IsStamp s → HasDay s → Date
date_of s h d = record { year = pos s.year; month = s.month; day = s.day; year_in = omega (arith, signed_arith, h.year); month_in = d.0; day_in = d.1 }

pos_same : (m n : ℕ) → pos m ≡ pos n → m ≡ n
pos_same m n e = omega (arith, signed_arith)

same_stamp : (s t : Stamp) → s.year ≡ t.year → s.month ≡ t.month → s.day ≡ t.day → s.hour ≡ t.hour → s.minute ≡ t.minute → s.second ≡ t.second
    → s.fraction ≡ t.fraction → s.zone ≡ t.zone → s ≡ t
same_stamp s t a b c d e f g h = λ i. record { year = a i; month = b i; day = c i; hour = d i; minute = e i; second = f i; fraction = g i; zone = h i }

-- the instant of a stamp in UTC with three digits
instant_in_utc : (s : Stamp) → s.zone ≡ utc → length s.fraction ≡ 3
    → instant_of s ≡ nanoseconds (days_from_civil (pos s.year) s.month s.day) (s.hour * 3600 + s.minute * 60 + s.second) (pos 0) (digits_value 10 s.fraction * 1_000_000)
instant_in_utc s zulu three =
    ap (λ (z : Zone). nanoseconds (days_from_civil (pos s.year) s.month s.day) (s.hour * 3600 + s.minute * 60 + s.second) (seconds_ahead (is_west z) (zone_minutes z)) (cut_fraction 9 s.fraction)) zulu
    ∙ ap (λ (n : ℕ). nanoseconds (days_from_civil (pos s.year) s.month s.day) (s.hour * 3600 + s.minute * 60 + s.second) (pos 0) n) (cut_of_three s.fraction three)

seconds_in : (s : Stamp) → IsStamp s → s.hour * 3600 + s.minute * 60 + s.second < 86_400
seconds_in s h = let p = h.hour in let q = h.minute in let r = h.second in omega arith

one_stamp : (s t : Stamp) → IsStamp s → IsStamp t → HasDay s → HasDay t → s.zone ≡ utc → t.zone ≡ utc → length s.fraction ≡ 3 → length t.fraction ≡ 3
    → instant_of s ≡ instant_of t → s ≡ t
unfolding date_of
one_stamp s t h k d e zulu_s zulu_t three_s three_t same =
    let small_s = small_fraction s.fraction (digits_of s.fraction h.fraction) three_s in
    let small_t = small_fraction t.fraction (digits_of t.fraction k.fraction) three_t in
    let parts = same_parts (days_from_civil (pos s.year) s.month s.day) (days_from_civil (pos t.year) t.month t.day)
    (s.hour * 3600 + s.minute * 60 + s.second) (t.hour * 3600 + t.minute * 60 + t.second) (digits_value 10 s.fraction * 1_000_000) (digits_value 10 t.fraction * 1_000_000)
    (seconds_in s h) (seconds_in t k) (omega arith) (omega arith) (sym (instant_in_utc s zulu_s three_s) ∙ same ∙ instant_in_utc t zulu_t three_t) in
    let day = epoch_day_injective (date_of s h d) (date_of t k e) parts.0 in
    let clock = same_clock s.hour s.minute s.second t.hour t.minute t.second h.minute h.second k.minute k.second parts.1 in
    let thousand : digits_value 10 s.fraction ≡ digits_value 10 t.fraction = let p = parts.2 in omega arith in
    same_stamp s t (pos_same s.year t.year day.0) day.1 day.2 clock.0 clock.1 clock.2
    (same_fraction s.fraction t.fraction (digits_of s.fraction h.fraction) (digits_of t.fraction k.fraction) three_s three_t thousand) (zulu_s ∙ sym zulu_t)

pub one_text : (moment : ℕ) (a b : List ℕ) → IsMomentText moment a → IsMomentText moment b → a ≡ b
one_text moment a b x y =
    let same = one_stamp x.0 y.0 x.1.parts y.1.parts x.2 y.2 x.4 y.4 x.3 y.3 (x.5 ∙ sym y.5) in
    x.1.spelling ∙ ap stamp_text same ∙ sym y.1.spelling

-- ---- the last day that has a text

within_days : (m : ℕ) (day : ℤ) (second part : ℕ) → day ≤ℤ pos 2_932_896 → second < 86_400 → part < 1000
    → nanoseconds day second (pos 0) (part * 1_000_000) ≡ pos (m * 1_000_000) → m / 86_400_000 ≤ 2_932_896
within_days m day second part told clock few e = omega (arith, signed_arith)

below_end : (d : Date) → days_from_civil d.year d.month d.day ≤ℤ pos 2_932_896
below_end d = (epoch_day_range d).1

-- no text tells a moment after the last day of the year 9999
pub day_is_told : (m : ℕ) (text : List ℕ) → IsMomentText m text → m / 86_400_000 ≤ 2_932_896
unfolding date_of
day_is_told m text (s, h, day, three, zulu, instant) =
    let part = small_fraction s.fraction (digits_of s.fraction h.parts.fraction) three in
    let clock = seconds_in s h.parts in
    let told = below_end (date_of s h.parts day) in
    within_days m (days_from_civil (pos s.year) s.month s.day) (s.hour * 3600 + s.minute * 60 + s.second) (digits_value 10 s.fraction) told clock part
    (sym (instant_in_utc s zulu three) ∙ instant)
