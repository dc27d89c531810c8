-- What the text of a timestamp is, and which instant it names.
use Rattle.std.specs.Prelude.{◌≡◌, ℕ, ◌+◌, ◌*◌, ◌<◌, Bool, true, false, List, [], ◌∷◌, ◌++◌, length, ℤ, pos, neg_ℤ}
use Rattle.std.specs.Prelude.{◌+ℤ◌, ◌-ℤ◌, ◌*ℤ◌}
use Rattle.std.specs.Int.{IsInRange}
use Rattle.jiff_core.specs.Calendar.{days_from_civil, days_in_month}
use Rattle.lrs_time.specs.Digits.{two_digits, three_digits, four_digits, IsNumeral, cut_fraction}

-- What follows the time of day: nothing, `Z`, or an offset of hours and minutes.
-- The test says that the sign of the offset is a minus.
pub data Zone : Type 0 where
  absent : Zone
  utc : Zone
  hours : Bool → ℕ → Zone
  basic : Bool → ℕ → ℕ → Zone
  extended : Bool → ℕ → ℕ → Zone

abbrev pub sign : Bool → ℕ
sign false = 43
sign true = 45

-- ``, `Z`, `±HH`, `±HHMM`, `±HH:MM`
abbrev pub zone_text : Zone → List ℕ
zone_text absent = []
zone_text utc = 90 ∷ []
zone_text (hours west h) = sign west ∷ two_digits h
zone_text (basic west h m) = sign west ∷ (two_digits h ++ two_digits m)
zone_text (extended west h m) = sign west ∷ (two_digits h ++ (58 ∷ two_digits m))

-- hours up to 23 and minutes up to 59
abbrev pub IsZone : Zone → Type 0
IsZone absent = Unit {0}
IsZone utc = Unit {0}
IsZone (hours west h) = h < 24
IsZone (basic west h m) = (h < 24) × (m < 60)
IsZone (extended west h m) = (h < 24) × (m < 60)

-- the minutes of the offset, without its sign
abbrev pub zone_minutes : Zone → ℕ
zone_minutes absent = 0
zone_minutes utc = 0
zone_minutes (hours west h) = h * 60
zone_minutes (basic west h m) = h * 60 + m
zone_minutes (extended west h m) = h * 60 + m

-- the sign of the offset
abbrev pub is_west : Zone → Bool
is_west absent = false
is_west utc = false
is_west (hours west h) = west
is_west (basic west h m) = west
is_west (extended west h m) = west

-- `-00`, `-0000` or `-00:00`
abbrev pub IsNegativeZero : Zone → Type 0
IsNegativeZero zone = (is_west zone ≡ true) × (zone_minutes zone ≡ 0)

-- the seconds that clocks there are ahead of UTC, given the minutes and the sign
abbrev pub seconds_ahead : Bool → ℕ → ℤ
seconds_ahead false minutes = pos (minutes * 60)
seconds_ahead true minutes = neg_ℤ (pos (minutes * 60))

-- what the fields of a timestamp spell
pub record Stamp : Type 0 where
  pub year : ℕ
  pub month : ℕ
  pub day : ℕ
  pub hour : ℕ
  pub minute : ℕ
  pub second : ℕ
  pub fraction : List ℕ
  pub zone : Zone

-- nothing, or a point and the digits
abbrev pub fraction_text : List ℕ → List ℕ
fraction_text [] = []
fraction_text (d ∷ ds) = 46 ∷ d ∷ ds

abbrev pub IsFractionOfSecond : List ℕ → Type 0
IsFractionOfSecond [] = Unit {0}
IsFractionOfSecond (d ∷ ds) = IsNumeral 30 (d ∷ ds)

-- YYYY-MM-DD
abbrev pub date_text : Stamp → List ℕ
date_text s = four_digits s.year ++ (45 ∷ two_digits s.month) ++ (45 ∷ two_digits s.day)

-- HH:MM:SS
abbrev pub clock_text : Stamp → List ℕ
clock_text s = two_digits s.hour ++ (58 ∷ two_digits s.minute) ++ (58 ∷ two_digits s.second)

-- YYYY-MM-DDTHH:MM:SS, then the fraction, then the zone
abbrev pub stamp_text : Stamp → List ℕ
stamp_text s = date_text s ++ (84 ∷ clock_text s) ++ fraction_text s.fraction ++ zone_text s.zone

-- Each field holds what its digits can show and a clock does. The calendar isn't asked yet.
pub record IsStamp (s : Stamp) : Type 0 where
  pub year : s.year < 10000
  pub month : s.month < 100
  pub day : s.day < 100
  pub hour : s.hour < 24
  pub minute : s.minute < 60
  pub second : s.second < 60
  pub fraction : IsFractionOfSecond s.fraction
  pub zone : IsZone s.zone

-- the text has the shape of a timestamp, with these parts
pub record SpellsStamp (text : List ℕ) (s : Stamp) : Type 0 where
  pub parts : IsStamp s
  pub spelling : text ≡ stamp_text s

-- the calendar has this month and this day
abbrev pub IsDay : ℕ → ℕ → ℕ → Type 0
IsDay year month day = IsInRange 1 12 month × IsInRange 1 (days_in_month (pos year) month) day

abbrev pub HasDay : Stamp → Type 0
HasDay s = IsDay s.year s.month s.day

-- nanoseconds since 1970-01-01T00:00:00Z, of a day, the seconds since midnight there, the seconds
-- that clocks there are ahead, and the nanoseconds of the second
abbrev pub nanoseconds : ℤ → ℕ → ℤ → ℕ → ℤ
nanoseconds day second ahead nanosecond =
    (day *ℤ pos 86_400 +ℤ pos second -ℤ ahead) *ℤ pos 1_000_000_000 +ℤ pos nanosecond

-- the instant: the first nine digits of the fraction count
abbrev pub instant_of : Stamp → ℤ
instant_of s =
    nanoseconds (days_from_civil (pos s.year) s.month s.day)
    (s.hour * 3600 + s.minute * 60 + s.second)
    (seconds_ahead (is_west s.zone) (zone_minutes s.zone))
    (cut_fraction 9 s.fraction)

-- the text has another shape
abbrev pub IsNoTimestamp : List ℕ → Type 0
IsNoTimestamp text = (s : Stamp) → ¬ (SpellsStamp text s)

-- the shape is right, and the calendar has no such day
abbrev pub NamesNoDay : List ℕ → Type 0
NamesNoDay text = (s : Stamp) × SpellsStamp text s × (¬ (HasDay s))

-- the day is right, and the offset is a negative zero
abbrev pub HasNegativeZero : List ℕ → Type 0
HasNegativeZero text = (s : Stamp) × SpellsStamp text s × HasDay s × IsNegativeZero s.zone

-- the text is a timestamp of this instant
abbrev pub IsTimestampOf : List ℕ → ℤ → Type 0
IsTimestampOf text instant =
    (s : Stamp) × SpellsStamp text s × HasDay s × (¬ (IsNegativeZero s.zone)) × (instant_of s ≡ instant)

-- the instant of a moment
abbrev pub instant_of_moment : ℕ → ℤ
instant_of_moment moment = pos (moment * 1_000_000)

-- The text is the moment's: YYYY-MM-DDTHH:MM:SS.mmmZ, of the instant that many milliseconds after
-- 1970-01-01T00:00:00Z.
abbrev pub IsMomentText : ℕ → List ℕ → Type 0
IsMomentText moment text =
    (s : Stamp) × SpellsStamp text s × HasDay s × (length s.fraction ≡ 3) × (s.zone ≡ utc)
    × (instant_of s ≡ instant_of_moment moment)

-- what the fields of such a text spell
abbrev pub utc_stamp : (year month day hour minute second millisecond : ℕ) → Stamp
utc_stamp year month day hour minute second millisecond = record {
  year = year;
  month = month;
  day = day;
  hour = hour;
  minute = minute;
  second = second;
  fraction = three_digits millisecond;
  zone = utc;
}
