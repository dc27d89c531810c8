-- The text of a moment is a timestamp of the same point of time.
use Rattle.std.proofs.Common.{◌≡◌, ℕ, ◌+◌, ◌*◌, ◌/◌, ◌%◌, ◌<◌, List, inl, inr, ℤ, pos, negsuc, ◌≤ℤ◌, unsigned_abs, refl, sym, ap, ◌∙◌, subst, true≢false, arith, rules}
use Rattle.std.specs.Int.{IsInRange}
use Rattle.std.specs.Char.{digit_value}
use Rattle.std.specs.Str.Parse.{AllDigits, digits_value}
use Rattle.jiff_core.specs.declared.civil.date.Date.{Date}
use Rattle.jiff_core.specs.declared.civil.time.Time.{Time}
use Rattle.jiff_core.specs.Calendar.{days_in_month}
use Rattle.jiff_core.specs.Date.{epoch_day}
use Rattle.jiff_core.specs.Time.{time_seconds}
use Rattle.jiff_core.proofs.SignedLemmas.{signed_arith}
use Rattle.jiff_core.proofs.CalendarLemmas.{days_from_civil-day_count, day_count-epoch, days_in_month_bounds}
use Rattle.jiff_core.proofs.DateLemmas.{cases_date, epoch_day-lt}
use Rattle.lrs_time.specs.Digits.{three_digits, cut_fraction}
use Rattle.lrs_time.specs.Timestamp.{Stamp, stamp_text, utc_stamp, IsStamp, is_west, instant_of, nanoseconds, IsMomentText, IsTimestampOf}

-- ---- from 1970 on years aren't negative

epoch : Date
epoch = record { year = pos 1970; month = 1; day = 1; year_in = search rules; month_in = search rules; day_in = search rules }

epoch_day-epoch : epoch_day epoch ≡ pos 0
unfolding epoch
epoch_day-epoch = omega (arith, signed_arith, days_from_civil-day_count, day_count-epoch)

pub year_from_epoch : (d : Date) → pos 0 ≤ℤ epoch_day d → pos 0 ≤ℤ d.year
unfolding epoch
year_from_epoch d h =
    elim (cases_date d epoch) [
      | inl earlier ↦ absurd (omega (arith, signed_arith, epoch_day-lt d epoch earlier, epoch_day-epoch))
      | inr (inl (inl later)) ↦ omega (arith, signed_arith)
      | inr (inl (inr (year, rest))) ↦ omega (arith, signed_arith)
      | inr (inr same) ↦ omega (arith, signed_arith)
    ]

-- ---- three digits of a fraction

pub digit_of : (n : ℕ) → n < 10 → digit_value (48 + n) ≡ n
digit_of n h = grind arith

three_digits_are : (n : ℕ) → n < 1000 → AllDigits 10 (three_digits n)
three_digits_are n h =
    (rw (digit_of (n / 100) (omega arith)) (omega arith), (rw (digit_of (n % 100 / 10) (omega arith)) (omega arith), (rw (digit_of (n % 100 % 10) (omega arith)) (omega arith), tt)))

three_digits_value : (n : ℕ) → n < 1000 → digits_value 10 (three_digits n) ≡ n
three_digits_value n h =
    rw (digit_of (n / 100) (omega arith), digit_of (n % 100 / 10) (omega arith), digit_of (n % 100 % 10) (omega arith)) (omega arith)

cut_three : (n : ℕ) → n < 1000 → cut_fraction 9 (three_digits n) ≡ n * 1_000_000
cut_three n h = ap (λ v. v * 1_000_000) (three_digits_value n h)

-- ---- the whole

same_year : (y : ℤ) → pos 0 ≤ℤ y → pos (unsigned_abs y) ≡ y
same_year (pos n) h = refl
same_year (negsuc n) h = absurd (omega (arith, signed_arith))

reckoned : (m : ℕ) (day : ℤ) (second part : ℕ) → day ≡ pos (m / 86_400_000) → second ≡ m % 86_400_000 / 1000 → part ≡ m % 1000 * 1_000_000 → nanoseconds day second (pos 0) part ≡ pos (m * 1_000_000)
reckoned m day second part a b c = omega (arith, signed_arith)

pub moment_is : (m : ℕ) (date : Date) (time : Time) (text : List ℕ) → epoch_day date ≡ pos (m / 86_400_000) → pos 0 ≤ℤ date.year → time_seconds time ≡ m % 86_400_000 / 1000 → text ≡ stamp_text (utc_stamp (unsigned_abs date.year) date.month date.day time.hour time.minute time.second (m % 1000)) → IsMomentText m text
moment_is m date time text day year second e =
    let s : Stamp = utc_stamp (unsigned_abs date.year) date.month date.day time.hour time.minute time.second (m % 1000) in
    let same = same_year date.year year in
    let small : m % 1000 < 1000 = omega arith in
    let parts : IsStamp s = record {
      year = omega (arith, signed_arith, date.year_in);
      month = omega (arith, date.month_in);
      day = omega (arith, date.day_in, days_in_month_bounds date.year date.month);
      hour = time.hour_in;
      minute = time.minute_in;
      second = time.second_in;
      fraction = record { digits = three_digits_are (m % 1000) small; some = omega arith; few = omega arith };
      zone = tt;
    } in
    let instant : instant_of s ≡ pos (m * 1_000_000) = rw same (reckoned m (epoch_day date) (time_seconds time) (cut_fraction 9 (three_digits (m % 1000))) day second (cut_three (m % 1000) small)) in
    (s, record { parts = parts; spelling = e }, (date.month_in, subst (λ (y : ℤ). IsInRange 1 (days_in_month y date.month) date.day) (sym same) date.day_in), refl, refl, instant)

pub moment_instant : (m : ℕ) (text : List ℕ) → IsMomentText m text → IsTimestampOf text (pos (m * 1_000_000))
moment_instant m text (s, h, day, three, zulu, instant) =
    (s, h, day, (λ west. true≢false (sym west.0 ∙ ap is_west zulu)), instant)
