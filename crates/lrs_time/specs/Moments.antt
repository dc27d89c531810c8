-- The range of moments, and the text of one as a function: the dates are counted on from 1970-01-01.
use Rattle.std.specs.Prelude.{ℕ, zero, suc, ◌+◌, ◌/◌, ◌%◌, ◌==◌, nat_lt, min, Bool, not, List, pos, if◌then◌else◌}
use Rattle.jiff_core.specs.Calendar.{days_in_month}
use Rattle.lrs_time.specs.Timestamp.{stamp_text, utc_stamp}
use Rattle.lrs_time.specs.declared.moments.TheConstants.{LATEST}

-- the moment, or the last one if that is later
abbrev pub clamped : ℕ → ℕ
clamped ms = min ms LATEST

pub record Day : Type 0 where
  pub year : ℕ
  pub month : ℕ
  pub day : ℕ

abbrev pub is_last_of_month : Day → Bool
is_last_of_month d = not (nat_lt d.day (days_in_month (pos d.year) d.month))

abbrev pub next_month : Day → Day
next_month d =
    if d.month == 12 then record { year = d.year + 1; month = 1; day = 1 }
    else record { year = d.year; month = d.month + 1; day = 1 }

abbrev pub next_day : Day → Day
next_day d = if is_last_of_month d then next_month d else record { year = d.year; month = d.month; day = d.day + 1 }

-- the day that many days after 1970-01-01
unfoldable pub day_after : ℕ → Day
day_after zero = record { year = 1970; month = 1; day = 1 }
day_after (suc n) = next_day (day_after n)

-- on that day, so many milliseconds after midnight: YYYY-MM-DDTHH:MM:SS.mmmZ
abbrev pub text_on : Day → ℕ → List ℕ
text_on d ms =
    stamp_text (utc_stamp d.year d.month d.day (ms / 3_600_000) (ms / 60_000 % 60) (ms / 1000 % 60) (ms % 1000))

-- the text of the moment that many milliseconds after 1970-01-01T00:00:00Z
unfoldable pub moment_text : ℕ → List ℕ
moment_text moment = text_on (day_after (moment / 86_400_000)) (moment % 86_400_000)
