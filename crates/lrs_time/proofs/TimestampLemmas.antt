-- The texts of timestamps are read as what they spell.
use Rattle.std.proofs.Common.{◌≡◌, ◌↔◌, ℕ, ◌+◌, ◌-◌, ◌*◌, ◌/◌, ◌%◌, ◌<◌, ◌≤◌, ◌==◌, ◌&&◌, nat_lt, List, [], ◌∷◌, ◌++◌, Bool, true, false, Option, Some, None, Result, Ok, Err, option_and_then, if◌then◌else◌, ℤ, refl, sym, ap, ◌∙◌, subst, arith, true≢false, lit≤}
use Rattle.std.specs.Char.{is_ascii_digit}
use Rattle.std.proofs.lemmas.Grind.{common_steps}
use Rattle.std.proofs.lemmas.Option.{cond_some, option_and_then_some, same_Some, none-some}
use Rattle.lrs_time.specs.Digits.{two_digits, four_digits, IsNumeral, cut_fraction}
use Rattle.lrs_time.specs.Timestamp.{Zone, absent, utc, hours, basic, extended, sign, zone_text, IsZone, zone_minutes, is_west, IsNegativeZero, Stamp, fraction_text, IsFractionOfSecond, date_text, clock_text, stamp_text, SpellsStamp, IsDay, HasDay, instant_of, IsNoTimestamp, NamesNoDay, HasNegativeZero, IsTimestampOf}
use Rattle.lrs_time.specs.Reading.{numeral_at, after, two_digits_at, below_at, date_at, clock_at, fraction_at, without_colon, whole, minutes_at, offset_minutes_at, offset_at, parts_at, is_day, is_negative_zero, instant_of_parts, judged, timestamp_at}
use Rattle.lrs_time.specs.declared.timestamps.CivilDay.{CivilDay}
use Rattle.lrs_time.specs.declared.timestamps.Offset.{Offset}
use Rattle.lrs_time.specs.declared.timestamps.Parts.{Parts}
use Rattle.lrs_time.specs.declared.timestamps.TimeRefused.{TimeRefused}
use Rattle.lrs_time.specs.declared.timestamps.TimeRefused.TheVariants.{Shape, NoSuchDay, NegativeZero}
use Rattle.lrs_time.proofs.DigitLemmas.{Stops, numeral_found, numeral_again}

-- ---- the calendar's test

pub is_day-true : (year month day : ℕ) → IsDay year month day → is_day year month day ≡ true
is_day-true year month day h = grind arith

pub true-is_day : (year month day : ℕ) → is_day year month day ≡ true → IsDay year month day
true-is_day year month day h = grind arith

-- ---- two digits

two_front : (a b : ℕ) → (is_ascii_digit a && is_ascii_digit b) ≡ true → ((a - 48) * 10 + (b - 48) < 100) × (a ≡ 48 + ((a - 48) * 10 + (b - 48)) / 10) × (b ≡ 48 + ((a - 48) * 10 + (b - 48)) % 10)
two_front a b h = grind arith

two_back : (n : ℕ) → n < 100 → (is_ascii_digit (48 + n / 10) && is_ascii_digit (48 + n % 10)) ≡ true
two_back n h = grind arith

two_digits_is : (a b : ℕ) (rest : List ℕ) (n : ℕ × List ℕ) → (is_ascii_digit a && is_ascii_digit b) ≡ true → ◌≡◌ {A = ℕ × List ℕ} ((a - 48) * 10 + (b - 48), rest) n → (n.0 < 100) × (a ∷ b ∷ rest ≡ two_digits n.0 ++ n.1)
two_digits_is a b rest n t e =
    let f = two_front a b t in
    let whole : a ∷ b ∷ rest ≡ (48 + ((a - 48) * 10 + (b - 48)) / 10) ∷ (48 + ((a - 48) * 10 + (b - 48)) % 10) ∷ rest = cc (f.1, f.2) in
    subst (λ (m : ℕ × List ℕ). (m.0 < 100) × (a ∷ b ∷ rest ≡ two_digits m.0 ++ m.1)) e (f.0, whole)

pub two_digits_found : (text : List ℕ) (n : ℕ × List ℕ) → two_digits_at text ≡ Some n → (n.0 < 100) × (text ≡ two_digits n.0 ++ n.1)
unfolding two_digits_at
two_digits_found [] n e = cc e
two_digits_found (a ∷ []) n e = cc e
two_digits_found (a ∷ b ∷ rest) n e =
    let g = cond_some (is_ascii_digit a && is_ascii_digit b) ((a - 48) * 10 + (b - 48), rest) n e in
    two_digits_is a b rest n g.0 g.1

pub two_digits_again : (n : ℕ) (rest : List ℕ) → n < 100 → two_digits_at (two_digits n ++ rest) ≡ Some (n, rest)
unfolding two_digits_at
two_digits_again n rest h =
    let same : (48 + n / 10 - 48) * 10 + (48 + n % 10 - 48) ≡ n = omega arith in
    rw (two_back n h, same) refl

pub below_found : (limit : ℕ) (text : List ℕ) (n : ℕ × List ℕ) → below_at limit text ≡ Some n → (n.0 < limit) × (text ≡ two_digits n.0 ++ n.1)
unfolding below_at
below_found limit text n e =
    option_and_then_some _ (two_digits_at text) n e (λ a is e'.
    let g = cond_some (nat_lt a.0 limit) a n e' in
    let f = two_digits_found text a is in
    subst (λ (m : ℕ × List ℕ). (m.0 < limit) × (text ≡ two_digits m.0 ++ m.1)) g.1 (grind arith, f.1))

pub below_again : (limit n : ℕ) (rest : List ℕ) → n < limit → limit ≤ 100 → below_at limit (two_digits n ++ rest) ≡ Some (n, rest)
unfolding below_at
below_again limit n rest h small =
    let t : nat_lt n limit ≡ true = grind arith in
    rw (two_digits_again n rest (omega arith)) (rw t refl)

-- ---- one byte

after_at : (wanted byte : ℕ) (bs rest : List ℕ) → (if byte == wanted then Some bs else None) ≡ Some rest → byte ∷ bs ≡ wanted ∷ rest
after_at wanted byte bs rest e =
    let g = cond_some (byte == wanted) bs rest e in
    let same : byte ≡ wanted = grind (arith, common_steps) in
    cc (same, g.1)

pub after_found : (wanted : ℕ) (text rest : List ℕ) → after wanted text ≡ Some rest → text ≡ wanted ∷ rest
unfolding after
after_found wanted [] rest e = cc e
after_found wanted (byte ∷ bs) rest e = after_at wanted byte bs rest e

pub after_again : (wanted : ℕ) (rest : List ℕ) → after wanted (wanted ∷ rest) ≡ Some rest
unfolding after
after_again wanted rest = let same : (wanted == wanted) ≡ true = grind (arith, common_steps) in rw same refl

-- ---- the date

date_is : (text : List ℕ) (c y : ℕ × List ℕ) (r : List ℕ) (m : ℕ × List ℕ) (r' : List ℕ) (k : ℕ × List ℕ) → (c.0 < 100) × (text ≡ two_digits c.0 ++ c.1) → (y.0 < 100) × (c.1 ≡ two_digits y.0 ++ y.1) → y.1 ≡ 45 ∷ r → (m.0 < 100) × (r ≡ two_digits m.0 ++ m.1) → m.1 ≡ 45 ∷ r' → (k.0 < 100) × (r' ≡ two_digits k.0 ++ k.1) → (c.0 * 100 + y.0 < 10000) × (m.0 < 100) × (k.0 < 100) × (text ≡ (four_digits (c.0 * 100 + y.0) ++ (45 ∷ two_digits m.0) ++ (45 ∷ two_digits k.0)) ++ k.1)
date_is text c y r m r' k a b d e f g =
    let century : (c.0 * 100 + y.0) / 100 ≡ c.0 = omega arith in
    let year : (c.0 * 100 + y.0) % 100 ≡ y.0 = omega arith in
    (omega arith, e.0, g.0, rw (century, year) (cc (a.1, b.1, d, e.1, f, g.1)))

-- the bytes are a date, and those after it
abbrev IsDateFront : List ℕ → CivilDay × List ℕ → Type 0
IsDateFront text d =
    (d.0.year < 10000) × (d.0.month < 100) × (d.0.day < 100) × (text ≡ (four_digits d.0.year ++ (45 ∷ two_digits d.0.month) ++ (45 ∷ two_digits d.0.day)) ++ d.1)

date_found : (text : List ℕ) (d : CivilDay × List ℕ) → date_at text ≡ Some d → IsDateFront text d
unfolding date_at
date_found text d e =
    option_and_then_some _ (two_digits_at text) d e (λ c is-c e.
    option_and_then_some _ (two_digits_at c.1) d e (λ y is-y e.
    option_and_then_some _ (after 45 y.1) d e (λ r is-r e.
    option_and_then_some _ (two_digits_at r) d e (λ m is-m e.
    option_and_then_some _ (after 45 m.1) d e (λ r' is-r' e.
    option_and_then_some _ (two_digits_at r') d e (λ k is-k e.
    subst (IsDateFront text) (same_Some _ _ e) (date_is text c y r m r' k (two_digits_found text c is-c) (two_digits_found c.1 y is-y) (after_found 45 y.1 r is-r) (two_digits_found r m is-m) (after_found 45 m.1 r' is-r') (two_digits_found r' k is-k))))))))

date_again : (year month day : ℕ) (rest : List ℕ) → year < 10000 → month < 100 → day < 100 → date_at ((four_digits year ++ (45 ∷ two_digits month) ++ (45 ∷ two_digits day)) ++ rest) ≡ Some (record { year = year; month = month; day = day }, rest)
unfolding date_at
date_again year month day rest y m d =
    let whole : year / 100 * 100 + year % 100 ≡ year = omega arith in
    rw (two_digits_again (year / 100) (two_digits (year % 100) ++ ((45 ∷ two_digits month) ++ ((45 ∷ two_digits day) ++ rest))) (omega arith), two_digits_again (year % 100) ((45 ∷ two_digits month) ++ ((45 ∷ two_digits day) ++ rest)) (omega arith), after_again 45 (two_digits month ++ ((45 ∷ two_digits day) ++ rest)), two_digits_again month ((45 ∷ two_digits day) ++ rest) m, after_again 45 (two_digits day ++ rest), two_digits_again day rest d, whole) refl

-- ---- the time of day

clock_is : (text : List ℕ) (h : ℕ × List ℕ) (r : List ℕ) (m : ℕ × List ℕ) (r' : List ℕ) (s : ℕ × List ℕ) → text ≡ two_digits h.0 ++ h.1 → h.1 ≡ 58 ∷ r → r ≡ two_digits m.0 ++ m.1 → m.1 ≡ 58 ∷ r' → r' ≡ two_digits s.0 ++ s.1 → text ≡ (two_digits h.0 ++ (58 ∷ two_digits m.0) ++ (58 ∷ two_digits s.0)) ++ s.1
clock_is text h r m r' s a b d e f = cc (a, b, d, e, f)

-- the bytes are a time of day, and those after it
abbrev IsClockFront : List ℕ → ℕ × List ℕ → Type 0
IsClockFront text s =
    (hour minute second : ℕ) × (hour < 24) × (minute < 60) × (second < 60) × (s.0 ≡ hour * 3600 + minute * 60 + second) × (text ≡ (two_digits hour ++ (58 ∷ two_digits minute) ++ (58 ∷ two_digits second)) ++ s.1)

clock_found : (text : List ℕ) (s : ℕ × List ℕ) → clock_at text ≡ Some s → IsClockFront text s
unfolding clock_at
clock_found text s e =
    option_and_then_some _ (below_at 24 text) s e (λ h is-h e.
    option_and_then_some _ (after 58 h.1) s e (λ r is-r e.
    option_and_then_some _ (below_at 60 r) s e (λ m is-m e.
    option_and_then_some _ (after 58 m.1) s e (λ r' is-r' e.
    option_and_then_some _ (below_at 60 r') s e (λ k is-k e.
    let hour = below_found 24 text h is-h in
    let minute = below_found 60 r m is-m in
    let second = below_found 60 r' k is-k in
    subst (IsClockFront text) (same_Some _ _ e) (h.0, m.0, k.0, hour.0, minute.0, second.0, refl, clock_is text h r m r' k hour.1 (after_found 58 h.1 r is-r) minute.1 (after_found 58 m.1 r' is-r') second.1))))))

clock_again : (hour minute second : ℕ) (rest : List ℕ) → hour < 24 → minute < 60 → second < 60 → clock_at ((two_digits hour ++ (58 ∷ two_digits minute) ++ (58 ∷ two_digits second)) ++ rest) ≡ Some (hour * 3600 + minute * 60 + second, rest)
unfolding clock_at
clock_again hour minute second rest h m s =
    rw (below_again 24 hour ((58 ∷ two_digits minute) ++ ((58 ∷ two_digits second) ++ rest)) h (lit≤ tt), after_again 58 (two_digits minute ++ ((58 ∷ two_digits second) ++ rest)), below_again 60 minute ((58 ∷ two_digits second) ++ rest) m (lit≤ tt), after_again 58 (two_digits second ++ rest), below_again 60 second rest s (lit≤ tt)) refl

-- ---- the fraction

-- the bytes are a fraction or none, and those after it
abbrev IsFractionFront : List ℕ → ℕ × List ℕ → Type 0
IsFractionFront text n =
    (ds : List ℕ) × IsFractionOfSecond ds × (n.0 ≡ cut_fraction 9 ds) × (text ≡ fraction_text ds ++ n.1)

fraction_is : (rest ds more : List ℕ) → IsNumeral 30 ds → rest ≡ ds ++ more → IsFractionFront (46 ∷ rest) (cut_fraction 9 ds, more)
fraction_is rest [] more n e = absurd (omega (arith, n.some))
fraction_is rest (d ∷ ds) more n e = (d ∷ ds, n, refl, ap (λ z. 46 ∷ z) e)

fraction_at_byte : (byte : ℕ) (rest : List ℕ) (n : ℕ × List ℕ) (t : Bool) → (byte == 46) ≡ t → (if t then option_and_then (λ (digits : List ℕ × List ℕ). Some (cut_fraction 9 digits.0, digits.1)) (numeral_at 30 rest) else Some (0, byte ∷ rest)) ≡ Some n → IsFractionFront (byte ∷ rest) n
fraction_at_byte byte rest n true t e =
    let point : byte ≡ 46 = grind (arith, common_steps) in
    rw point (option_and_then_some _ (numeral_at 30 rest) n e (λ ds is e.
    let f = numeral_found 30 rest ds is in
    subst (IsFractionFront (46 ∷ rest)) (same_Some _ _ e) (fraction_is rest ds.0 ds.1 f.0 f.1)))
fraction_at_byte byte rest n false t e = subst (IsFractionFront (byte ∷ rest)) (same_Some _ _ e) ([], tt, refl, refl)

fraction_found : (text : List ℕ) (n : ℕ × List ℕ) → fraction_at text ≡ Some n → IsFractionFront text n
unfolding fraction_at
fraction_found [] n e = subst (IsFractionFront []) (same_Some _ _ e) ([], tt, refl, refl)
fraction_found (byte ∷ rest) n e = fraction_at_byte byte rest n (byte == 46) refl e

-- neither a digit nor a point comes first
abbrev Ends : List ℕ → Type 0
Ends [] = Unit {0}
Ends (b ∷ bs) = (is_ascii_digit b ≡ false) × ((b == 46) ≡ false)

Ends-Stops : (rest : List ℕ) → Ends rest → Stops rest
Ends-Stops [] h = tt
Ends-Stops (b ∷ bs) h = h.0

fraction_again : (ds rest : List ℕ) → IsFractionOfSecond ds → Ends rest → fraction_at (fraction_text ds ++ rest) ≡ Some (cut_fraction 9 ds, rest)
unfolding fraction_at
fraction_again [] [] n ends = refl
fraction_again [] (b ∷ bs) n ends = rw ends.1 refl
fraction_again (d ∷ ds) rest n ends = rw (numeral_again 30 (d ∷ ds) rest n (Ends-Stops rest ends)) refl

zone_Ends : (zone : Zone) → Ends (zone_text zone)
zone_Ends absent = tt
zone_Ends utc = (refl, refl)
zone_Ends (hours true h) = (refl, refl)
zone_Ends (hours false h) = (refl, refl)
zone_Ends (basic true h m) = (refl, refl)
zone_Ends (basic false h m) = (refl, refl)
zone_Ends (extended true h m) = (refl, refl)
zone_Ends (extended false h m) = (refl, refl)

-- ---- the zone

abbrev offset_of : Zone → Offset
offset_of zone = record { west = is_west zone; minutes = zone_minutes zone }

whole_found : {A : Type 0} (p : A × List ℕ) (y : A) → whole p ≡ Some y → (p.0 ≡ y) × (p.1 ≡ [])
whole_found (x, []) y e = (same_Some _ _ e, refl)
whole_found (x, b ∷ bs) y e = cc e

-- after this sign the bytes spell an offset of these minutes
abbrev IsOffsetOf : Bool → List ℕ → ℕ → Type 0
IsOffsetOf west text minutes =
    (zone : Zone) × IsZone zone × (is_west zone ≡ west) × (zone_minutes zone ≡ minutes) × (sign west ∷ text ≡ zone_text zone)

minutes_found_at : (west : Bool) (h : ℕ) (byte : ℕ) (bs : List ℕ) (mm : ℕ × List ℕ) (t : Bool) → h < 24 → (byte == 58) ≡ t → mm.0 < 60 → (if t then bs else byte ∷ bs) ≡ two_digits mm.0 ++ mm.1 → mm.1 ≡ [] → IsOffsetOf west (two_digits h ++ (byte ∷ bs)) (h * 60 + mm.0)
minutes_found_at west h byte bs mm true lt t small e none =
    let colon : byte ≡ 58 = grind (arith, common_steps) in
    (extended west h mm.0, (lt, small), refl, refl, cc (colon, e, none))
minutes_found_at west h byte bs mm false lt t small e none = (basic west h mm.0, (lt, small), refl, refl, cc (e, none))

minutes_found : (west : Bool) (h : ℕ) (text : List ℕ) (m : ℕ) → h < 24 → minutes_at h text ≡ Some m → IsOffsetOf west (two_digits h ++ text) m
unfolding minutes_at without_colon
minutes_found west h [] m lt e = subst (IsOffsetOf west (two_digits h)) (same_Some _ _ e) (hours west h, lt, refl, refl, refl)
minutes_found west h (byte ∷ bs) m lt e =
    option_and_then_some _ (below_at 60 (if byte == 58 then bs else byte ∷ bs)) m e (λ mm is e.
    let f = below_found 60 (if byte == 58 then bs else byte ∷ bs) mm is in
    let w = whole_found (h * 60 + mm.0, mm.1) m e in
    subst (IsOffsetOf west (two_digits h ++ (byte ∷ bs))) w.0 (minutes_found_at west h byte bs mm (byte == 58) lt refl f.0 f.1 w.1))

offset_minutes_found : (west : Bool) (text : List ℕ) (m : ℕ) → offset_minutes_at text ≡ Some m → IsOffsetOf west text m
unfolding offset_minutes_at
offset_minutes_found west text m e =
    option_and_then_some _ (below_at 24 text) m e (λ h is e.
    let f = below_found 24 text h is in
    rw f.1 (minutes_found west h.0 h.1 m f.0 e))

-- the bytes spell a zone of this offset
abbrev IsZoneText : List ℕ → Offset → Type 0
IsZoneText text offset = (zone : Zone) × IsZone zone × (offset_of zone ≡ offset) × (text ≡ zone_text zone)

zone_of_offset : (west : Bool) (byte : ℕ) (rest : List ℕ) (m : ℕ) → byte ≡ sign west → IsOffsetOf west rest m → IsZoneText (byte ∷ rest) (record { west = west; minutes = m })
zone_of_offset west byte rest m e z = (z.0, z.1, cc (z.2, z.3), rw e z.4)

-- the arms of the reader, after what its tests say
offset_arms : (byte : ℕ) (rest : List ℕ) (o : Offset) (z p m : Bool) → (byte == 90) ≡ z → (byte == 43) ≡ p → (byte == 45) ≡ m → (if z then whole (offset_of utc, rest) else (if p then option_and_then (λ (minutes : ℕ). Some (record { west = false; minutes = minutes })) (offset_minutes_at rest) else (if m then option_and_then (λ (minutes : ℕ). Some (record { west = true; minutes = minutes })) (offset_minutes_at rest) else None))) ≡ Some o → IsZoneText (byte ∷ rest) o
offset_arms byte rest o true p m is-z is-p is-m e =
    let w = whole_found (offset_of utc, rest) o e in
    let zulu : byte ≡ 90 = grind (arith, common_steps) in
    (utc, tt, w.0, cc (zulu, w.1))
offset_arms byte rest o false true m is-z is-p is-m e =
    let plus : byte ≡ 43 = grind (arith, common_steps) in
    option_and_then_some _ (offset_minutes_at rest) o e (λ n is e. subst (IsZoneText (byte ∷ rest)) (same_Some _ _ e) (zone_of_offset false byte rest n plus (offset_minutes_found false rest n is)))
offset_arms byte rest o false false true is-z is-p is-m e =
    let minus : byte ≡ 45 = grind (arith, common_steps) in
    option_and_then_some _ (offset_minutes_at rest) o e (λ n is e. subst (IsZoneText (byte ∷ rest)) (same_Some _ _ e) (zone_of_offset true byte rest n minus (offset_minutes_found true rest n is)))
offset_arms byte rest o false false false is-z is-p is-m e = cc e

offset_found : (text : List ℕ) (o : Offset) → offset_at text ≡ Some o → IsZoneText text o
unfolding offset_at
offset_found [] o e = (absent, tt, same_Some _ _ e, refl)
offset_found (byte ∷ rest) o e = offset_arms byte rest o (byte == 90) (byte == 43) (byte == 45) refl refl refl e

no_colon : (m : ℕ) → m < 60 → (48 + m / 10 == 58) ≡ false
no_colon m h = grind arith

hours_again : (h : ℕ) → h < 24 → offset_minutes_at (two_digits h) ≡ Some (h * 60)
unfolding offset_minutes_at minutes_at
hours_again h lt = rw (below_again 24 h [] lt (lit≤ tt)) refl

basic_again : (h m : ℕ) → h < 24 → m < 60 → offset_minutes_at (two_digits h ++ two_digits m) ≡ Some (h * 60 + m)
unfolding offset_minutes_at minutes_at without_colon
basic_again h m lt small = rw (below_again 24 h (two_digits m) lt (lit≤ tt)) (rw (no_colon m small) (rw (below_again 60 m [] small (lit≤ tt)) refl))

extended_again : (h m : ℕ) → h < 24 → m < 60 → offset_minutes_at (two_digits h ++ (58 ∷ two_digits m)) ≡ Some (h * 60 + m)
unfolding offset_minutes_at minutes_at without_colon
extended_again h m lt small = rw (below_again 24 h (58 ∷ two_digits m) lt (lit≤ tt)) (rw (below_again 60 m [] small (lit≤ tt)) refl)

offset_again : (zone : Zone) → IsZone zone → offset_at (zone_text zone) ≡ Some (offset_of zone)
unfolding offset_at
offset_again absent h = refl
offset_again utc h = refl
offset_again (hours false h) lt = rw (hours_again h lt) refl
offset_again (hours true h) lt = rw (hours_again h lt) refl
offset_again (basic false h m) lt = rw (basic_again h m lt.0 lt.1) refl
offset_again (basic true h m) lt = rw (basic_again h m lt.0 lt.1) refl
offset_again (extended false h m) lt = rw (extended_again h m lt.0 lt.1) refl
offset_again (extended true h m) lt = rw (extended_again h m lt.0 lt.1) refl

-- ---- the whole text

-- what a timestamp says, of what its fields spell
abbrev pub parts_of : Stamp → Parts
parts_of s = record {
  date = record { year = s.year; month = s.month; day = s.day };
  second = s.hour * 3600 + s.minute * 60 + s.second;
  nanosecond = cut_fraction 9 s.fraction;
  offset = offset_of s.zone;
}

abbrev IsPartsOf : List ℕ → Parts → Type 0
IsPartsOf text p = (s : Stamp) × SpellsStamp text s × (parts_of s ≡ p)

parts_is : (text : List ℕ) (d : CivilDay × List ℕ) (r : List ℕ) (t n : ℕ × List ℕ) (o : Offset) → IsDateFront text d → d.1 ≡ 84 ∷ r → IsClockFront r t → IsFractionFront t.1 n → IsZoneText n.1 o → IsPartsOf text (record { date = d.0; second = t.0; nanosecond = n.0; offset = o })
parts_is text d r t n o a b c f z =
    let s : Stamp = record { year = d.0.year; month = d.0.month; day = d.0.day; hour = c.0; minute = c.1; second = c.2; fraction = f.0; zone = z.0 } in
    let whole : text ≡ stamp_text s = cc (a.3, b, c.7, f.3, z.3) in
    (s, record { parts = record { year = a.0; month = a.1; day = a.2; hour = c.3; minute = c.4; second = c.5; fraction = f.1; zone = z.1 }; spelling = whole }, cc (c.6, f.2, z.2))

pub parts_found : (text : List ℕ) (p : Parts) → parts_at text ≡ Some p → IsPartsOf text p
unfolding parts_at
parts_found text p e =
    option_and_then_some _ (date_at text) p e (λ d is-d e.
    option_and_then_some _ (after 84 d.1) p e (λ r is-r e.
    option_and_then_some _ (clock_at r) p e (λ t is-t e.
    option_and_then_some _ (fraction_at t.1) p e (λ n is-n e.
    option_and_then_some _ (offset_at n.1) p e (λ o is-o e.
    subst (IsPartsOf text) (same_Some _ _ e) (parts_is text d r t n o (date_found text d is-d) (after_found 84 d.1 r is-r) (clock_found r t is-t) (fraction_found t.1 n is-n) (offset_found n.1 o is-o)))))))

-- the same text, grouped from the right
stamp_text-parts : (s : Stamp) → stamp_text s ≡ date_text s ++ (84 ∷ (clock_text s ++ (fraction_text s.fraction ++ zone_text s.zone)))
stamp_text-parts s = refl

pub parts_again : (text : List ℕ) (s : Stamp) → SpellsStamp text s → parts_at text ≡ Some (parts_of s)
unfolding parts_at
parts_again text s h =
    let p = h.parts in
    let whole = h.spelling ∙ stamp_text-parts s in
    ap parts_at whole ∙
    rw (date_again s.year s.month s.day (84 ∷ (clock_text s ++ (fraction_text s.fraction ++ zone_text s.zone))) p.year p.month p.day, after_again 84 (clock_text s ++ (fraction_text s.fraction ++ zone_text s.zone)), clock_again s.hour s.minute s.second (fraction_text s.fraction ++ zone_text s.zone) p.hour p.minute p.second, fraction_again s.fraction (zone_text s.zone) p.fraction (zone_Ends s.zone), offset_again s.zone p.zone) refl

-- ---- what becomes of the parts

zero_true : (o : Offset) → is_negative_zero o ≡ true → (o.west ≡ true) × (o.minutes ≡ 0)
zero_true o h = grind (arith, common_steps)

true_zero : (o : Offset) → o.west ≡ true → o.minutes ≡ 0 → is_negative_zero o ≡ true
true_zero o h k = grind (arith, common_steps)

-- One of four comes of a text, as its parts are.
pub data Outcome (text : List ℕ) (r : Result ℤ TimeRefused) : Type 0 where
  no_shape : IsNoTimestamp text → r ≡ Err Shape → Outcome text r
  no_day : (s : Stamp) → SpellsStamp text s → ¬ (HasDay s) → r ≡ Err NoSuchDay → Outcome text r
  zero_west : (s : Stamp) → SpellsStamp text s → HasDay s → IsNegativeZero s.zone → r ≡ Err NegativeZero → Outcome text r
  instant : (s : Stamp) → SpellsStamp text s → HasDay s → ¬ (IsNegativeZero s.zone) → r ≡ Ok (instant_of s) → Outcome text r

judged_at : (text : List ℕ) (s : Stamp) (d z : Bool) → SpellsStamp text s → is_day s.year s.month s.day ≡ d → is_negative_zero (offset_of s.zone) ≡ z → Outcome text (if d then (if z then Err NegativeZero else Ok (instant_of s)) else Err NoSuchDay)
judged_at text s false z h is-d is-z = no_day s h (λ day. true≢false (sym (is_day-true s.year s.month s.day day) ∙ is-d)) refl
judged_at text s true true h is-d is-z = zero_west s h (true-is_day s.year s.month s.day is-d) (zero_true (offset_of s.zone) is-z) refl
judged_at text s true false h is-d is-z = instant s h (true-is_day s.year s.month s.day is-d) (λ west. true≢false (sym (true_zero (offset_of s.zone) west.0 west.1) ∙ is-z)) refl

outcome_at : (text : List ℕ) (o : Option Parts) → parts_at text ≡ o → Outcome text (judged o)
outcome_at text None e = no_shape (λ s h. none-some (parts_of s) (sym e ∙ parts_again text s h)) refl
outcome_at text (Some p) e =
    let f = parts_found text p e in
    subst (λ (q : Parts). Outcome text (judged (Some q))) f.2 (judged_at text f.0 (is_day f.0.year f.0.month f.0.day) (is_negative_zero (offset_of f.0.zone)) f.1 refl refl)

pub outcome : (text : List ℕ) (r : Result ℤ TimeRefused) → r ≡ timestamp_at text → Outcome text r
unfolding timestamp_at
outcome text r e = subst (Outcome text) (sym e) (outcome_at text (parts_at text) refl)

-- two readings of one text say the same
pub one_reading : (text : List ℕ) (s s' : Stamp) → SpellsStamp text s → SpellsStamp text s' → parts_of s ≡ parts_of s'
one_reading text s s' h h' = same_Some _ _ (sym (parts_again text s h) ∙ parts_again text s' h')

same_day : (s s' : Stamp) → parts_of s ≡ parts_of s' → HasDay s → HasDay s'
same_day s s' e day = subst (λ (p : Parts). IsDay p.date.year p.date.month p.date.day) e day

same_zero : (s s' : Stamp) → parts_of s ≡ parts_of s' → IsNegativeZero s.zone → IsNegativeZero s'.zone
same_zero s s' e west = subst (λ (p : Parts). (p.offset.west ≡ true) × (p.offset.minutes ≡ 0)) e west

same_instant : (s s' : Stamp) → parts_of s ≡ parts_of s' → instant_of s ≡ instant_of s'
same_instant s s' e = ap instant_of_parts e

-- ---- the four clauses of the reader

pub shape_iff : (text : List ℕ) (r : Result ℤ TimeRefused) → Outcome text r → (r ≡ Err Shape) ↔ IsNoTimestamp text
shape_iff text r (no_shape none e) = (λ _. none, λ _. e)
shape_iff text r (no_day s h never e) = (λ e'. cc (e, e'), λ none. absurd (none s h))
shape_iff text r (zero_west s h day west e) = (λ e'. cc (e, e'), λ none. absurd (none s h))
shape_iff text r (instant s h day never e) = (λ e'. cc (e, e'), λ none. absurd (none s h))

pub no_such_day_iff : (text : List ℕ) (r : Result ℤ TimeRefused) → Outcome text r → (r ≡ Err NoSuchDay) ↔ NamesNoDay text
no_such_day_iff text r (no_shape none e) = (λ e'. cc (e, e'), λ h. absurd (none h.0 h.1))
no_such_day_iff text r (no_day s h never e) = (λ _. (s, h, never), λ _. e)
no_such_day_iff text r (zero_west s h day west e) = (λ e'. cc (e, e'), λ n. absurd (n.2 (same_day s n.0 (one_reading text s n.0 h n.1) day)))
no_such_day_iff text r (instant s h day never e) = (λ e'. cc (e, e'), λ n. absurd (n.2 (same_day s n.0 (one_reading text s n.0 h n.1) day)))

pub negative_zero_iff : (text : List ℕ) (r : Result ℤ TimeRefused) → Outcome text r → (r ≡ Err NegativeZero) ↔ HasNegativeZero text
negative_zero_iff text r (no_shape none e) = (λ e'. cc (e, e'), λ h. absurd (none h.0 h.1))
negative_zero_iff text r (no_day s h never e) = (λ e'. cc (e, e'), λ n. absurd (never (same_day n.0 s (one_reading text n.0 s n.1 h) n.2)))
negative_zero_iff text r (zero_west s h day west e) = (λ _. (s, h, day, west), λ _. e)
negative_zero_iff text r (instant s h day never e) = (λ e'. cc (e, e'), λ n. absurd (never (same_zero n.0 s (one_reading text n.0 s n.1 h) n.3)))

pub instant_iff : (text : List ℕ) (r : Result ℤ TimeRefused) → Outcome text r → (i : ℤ) → (r ≡ Ok i) ↔ IsTimestampOf text i
instant_iff text r (no_shape none e) i = (λ e'. cc (e, e'), λ h. absurd (none h.0 h.1))
instant_iff text r (no_day s h never e) i = (λ e'. cc (e, e'), λ n. absurd (never (same_day n.0 s (one_reading text n.0 s n.1 h) n.2)))
instant_iff text r (zero_west s h day west e) i = (λ e'. cc (e, e'), λ n. absurd (n.3 (same_zero s n.0 (one_reading text s n.0 h n.1) west)))
instant_iff text r (instant s h day never e) i =
    (λ e'. (s, h, day, never, cc (e, e')), λ n. e ∙ ap Ok (same_instant s n.0 (one_reading text s n.0 h n.1) ∙ n.4))

-- a timestamp of an instant is read as that instant
pub read_back : (text : List ℕ) (i : ℤ) → IsTimestampOf text i → timestamp_at text ≡ Ok i
read_back text i h = (instant_iff text (timestamp_at text) (outcome text (timestamp_at text) refl) i).1 h
