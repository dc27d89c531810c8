-- The text that a moment has is the one that `moment_text` counts out.
use Rattle.std.proofs.Common.{◌≡◌, ℕ, zero, suc, ◌+◌, ◌/◌, ◌%◌, ◌==◌, ◌<◌, ◌≤◌, List, Bool, true, false, if◌then◌else◌, pos, refl, arith}
use Rattle.std.proofs.lemmas.Bool.Decides.{nat_tests}
use Rattle.jiff_core.specs.declared.civil.date.Date.{Date}
use Rattle.jiff_core.specs.declared.civil.time.Time.{Time}
use Rattle.jiff_core.specs.Calendar.{days_from_civil, days_in_month}
use Rattle.jiff_core.proofs.SignedLemmas.{signed_arith}
use Rattle.jiff_core.proofs.CalendarLemmas.{days_in_month_bounds, days_from_civil-day_count, day_count-epoch}
use Rattle.jiff_core.proofs.DateLemmas.{days_from_civil-day, days_from_civil-next_month, days_from_civil-next_year, days_from_civil-max}
use Rattle.lrs_time.specs.Timestamp.{IsDay, IsMomentText}
use Rattle.lrs_time.specs.Moments.{Day, is_last_of_month, next_month, day_after, moment_text}
use Rattle.lrs_time.proofs.MomentLemmas.{moment_is}
use Rattle.lrs_time.proofs.OneText.{one_text, day_is_told}

-- a day of the calendar, and its number
record IsNumbered (n : ℕ) (d : Day) : Type 0 where
  early : 1970 ≤ d.year
  late : d.year < 10000
  day : IsDay d.year d.month d.day
  number : days_from_civil (pos d.year) d.month d.day ≡ pos n

first_day : IsNumbered 0 (record { year = 1970; month = 1; day = 1 })
first_day = record {
  early = omega arith;
  late = omega arith;
  day = ((omega arith, omega arith), (omega arith, omega arith));
  number = omega (arith, signed_arith, days_from_civil-day_count, day_count-epoch);
}

within_month : (n : ℕ) (d : Day) → IsNumbered n d → d.day < days_in_month (pos d.year) d.month
    → IsNumbered (suc n) (record { year = d.year; month = d.month; day = d.day + 1 })
within_month n d h more = record {
  early = h.early;
  late = h.late;
  day = (h.day.0, (omega arith, omega arith));
  number = let low = h.day.1.0 in let e = h.number in omega (arith, signed_arith, days_from_civil-day (pos d.year) d.month d.day (d.day + 1) low (omega arith));
}

first_of_month : (n : ℕ) (d : Day) → IsNumbered n d → d.day ≡ days_in_month (pos d.year) d.month → d.month < 12
    → IsNumbered (suc n) (record { year = d.year; month = d.month + 1; day = 1 })
first_of_month n d h last more = record {
  early = h.early;
  late = h.late;
  day = ((omega arith, omega arith), (omega arith, let long = days_in_month_bounds (pos d.year) (d.month + 1) in omega arith));
  number = let e = h.number in omega (arith, signed_arith, days_from_civil-next_month (pos d.year) d.month d.day h.day.0.0 last);
}

is_last_day : (n : ℕ) (y : ℕ) → y ≡ 9999 → days_from_civil (pos y) 12 31 ≡ pos n → n ≡ 2_932_896
is_last_day n y e h = let top : days_from_civil (pos y) 12 31 ≡ pos 2_932_896 = rw e days_from_civil-max in omega (arith, signed_arith)

first_of_year : (n : ℕ) (d : Day) → n < 2_932_896 → IsNumbered n d → d.month ≡ 12 → d.day ≡ 31
    → IsNumbered (suc n) (record { year = d.year + 1; month = 1; day = 1 })
first_of_year n d small h december last =
    let numbered : days_from_civil (pos d.year) 12 31 ≡ pos n = rw (december, last) at h.number in
    let before : ¬ (d.year ≡ 9999) = λ e. let top = is_last_day n d.year e numbered in omega arith in
    let low = h.early in
    let high = h.late in
    record {
      early = omega arith;
      late = omega arith;
      day = ((omega arith, omega arith), (omega arith, omega arith));
      number = omega (arith, signed_arith, days_from_civil-next_year (pos d.year) (pos (d.year + 1)) (omega (arith, signed_arith)) (omega (arith, signed_arith)));
    }

-- the days after the last of a month
behind_month : (n : ℕ) (d : Day) → n < 2_932_896 → IsNumbered n d → d.day ≡ days_in_month (pos d.year) d.month → (b : Bool) → (d.month == 12) ≡ b
    → IsNumbered (suc n) (if b then record { year = d.year + 1; month = 1; day = 1 } else record { year = d.year; month = d.month + 1; day = 1 })
behind_month n d small h last true is =
    let december : d.month ≡ 12 = grind (arith, nat_tests) in
    first_of_year n d small h december (rw december at last)
behind_month n d small h last false is =
    let earlier : d.month < 12 = let top = h.day.0.1 in grind (arith, nat_tests) in
    first_of_month n d h last earlier

behind_day : (n : ℕ) (d : Day) → n < 2_932_896 → IsNumbered n d → (b : Bool) → is_last_of_month d ≡ b
    → IsNumbered (suc n) (if b then next_month d else record { year = d.year; month = d.month; day = d.day + 1 })
behind_day n d small h true is =
    let last : d.day ≡ days_in_month (pos d.year) d.month = let top = h.day.1.1 in grind (arith, nat_tests) in
    behind_month n d small h last (d.month == 12) refl
behind_day n d small h false is =
    let more : d.day < days_in_month (pos d.year) d.month = grind (arith, nat_tests) in
    within_month n d h more

day_after_is : (n : ℕ) → n ≤ 2_932_896 → IsNumbered n (day_after n)
unfolding day_after
day_after_is zero small = first_day
day_after_is (suc n) small =
    let before : n < 2_932_896 = omega arith in
    behind_day n (day_after n) before (day_after_is n (omega arith)) (is_last_of_month (day_after n)) refl

date_of : (n : ℕ) (d : Day) → IsNumbered n d → Date
date_of n d h = record { year = pos d.year; month = d.month; day = d.day; year_in = let high = h.late in omega (arith, signed_arith); month_in = h.day.0; day_in = h.day.1 }

time_of : ℕ → Time
time_of ms = record {
  hour = ms % 86_400_000 / 3_600_000;
  minute = ms % 86_400_000 / 60_000 % 60;
  second = ms % 86_400_000 / 1000 % 60;
  subsec_nanosecond = 0;
  hour_in = omega arith;
  minute_in = omega arith;
  second_in = omega arith;
  subsec_in = omega arith;
}

counted_out : (m : ℕ) → m / 86_400_000 ≤ 2_932_896 → IsMomentText m (moment_text m)
unfolding moment_text date_of time_of
counted_out m small =
    let d = day_after (m / 86_400_000) in
    let h = day_after_is (m / 86_400_000) small in
    moment_is m (date_of (m / 86_400_000) d h) (time_of m) (moment_text m) h.number (omega (arith, signed_arith)) (omega arith) (let same : m % 86_400_000 % 1000 ≡ m % 1000 = omega arith in rw same refl)

pub is_moment_text : (m : ℕ) (text : List ℕ) → IsMomentText m text → text ≡ moment_text m
is_moment_text m text h = one_text m text (moment_text m) h (counted_out m (day_is_told m text h))
