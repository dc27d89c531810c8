-- How the readers of this crate go through a text. Each of these is a value at the beginning of the
-- text and what follows it; what the texts are stands in `Timestamp` and `Duration`.
use Rattle.std.specs.Prelude.{ℕ, ◌+◌, ◌-◌, ◌*◌, ◌<◌, ◌==◌, ◌&&◌, ◌||◌, ◌++◌, not, unwrap_or, slice_index_or, nat_lt}
use Rattle.std.specs.Prelude.{nat_le, Bool, true, false, List, [], ◌∷◌, take, drop, Option, Some, None, Result, Ok, Err}
use Rattle.std.specs.Prelude.{if◌then◌else◌, ℤ, pos}
use Rattle.std.specs.List.{prefix_len}
use Rattle.std.specs.Str.Parse.{digits_value}
use Rattle.std.specs.Char.{is_ascii_digit}
use Rattle.jiff_core.specs.Calendar.{days_from_civil, days_in_month}
use Rattle.lrs_decimal.specs.Fronts.{◌>>=◌, Front}
use Rattle.lrs_time.specs.Digits.{cut_fraction}
use Rattle.lrs_time.specs.Timestamp.{seconds_ahead, nanoseconds}
use Rattle.lrs_time.specs.Duration.{is_decimal_sign, date_units, clock_units, Span}
use Rattle.lrs_time.specs.declared.durations.Quantity.{Quantity}
use Rattle.lrs_time.specs.declared.durations.TheConstants.{BILLION}
use Rattle.lrs_time.specs.declared.timestamps.CivilDay.{CivilDay}
use Rattle.lrs_time.specs.declared.timestamps.Offset.{Offset}
use Rattle.lrs_time.specs.declared.timestamps.Parts.{Parts}
use Rattle.lrs_time.specs.declared.timestamps.TimeRefused.{TimeRefused}
use Rattle.lrs_time.specs.declared.timestamps.TimeRefused.TheVariants.{Shape, NoSuchDay, NegativeZero}

-- the digits at the beginning, at least one and at most so many
unfoldable pub numeral_at : ℕ → Front (List ℕ)
numeral_at most text =
    if nat_le 1 (prefix_len is_ascii_digit text) && nat_le (prefix_len is_ascii_digit text) most
    then Some (take (prefix_len is_ascii_digit text) text, drop (prefix_len is_ascii_digit text) text) else None

-- what follows this byte
unfoldable pub after : ℕ → List ℕ → Option (List ℕ)
after wanted [] = None
after wanted (byte ∷ rest) = if byte == wanted then Some rest else None

unfoldable pub two_digits_at : Front ℕ
two_digits_at [] = None
two_digits_at (a ∷ []) = None
two_digits_at (a ∷ b ∷ rest) = if is_ascii_digit a && is_ascii_digit b then Some ((a - 48) * 10 + (b - 48), rest)
    else None

-- two digits of a number below the limit
unfoldable pub below_at : ℕ → Front ℕ
below_at limit text = do
  n ← two_digits_at text
  if nat_lt n.0 limit then Some n else None

unfoldable pub date_at : Front CivilDay
date_at text = do
  century ← two_digits_at text
  year ← two_digits_at century.1
  rest ← after 45 year.1
  month ← two_digits_at rest
  rest' ← after 45 month.1
  day ← two_digits_at rest'
  Some (record { year = century.0 * 100 + year.0; month = month.0; day = day.0 }, day.1)

-- the seconds since midnight
unfoldable pub clock_at : Front ℕ
clock_at text = do
  hour ← below_at 24 text
  rest ← after 58 hour.1
  minute ← below_at 60 rest
  rest' ← after 58 minute.1
  second ← below_at 60 rest'
  Some (hour.0 * 3600 + minute.0 * 60 + second.0, second.1)

-- the nanoseconds
unfoldable pub fraction_at : Front ℕ
fraction_at [] = Some (0, [])
fraction_at (byte ∷ rest) =
    if byte == 46 then numeral_at 30 rest >>= (λ digits. Some (cut_fraction 9 digits.0, digits.1))
    else Some (0, byte ∷ rest)

-- without a colon, if one comes first
unfoldable pub without_colon : List ℕ → List ℕ
without_colon [] = []
without_colon (byte ∷ rest) = if byte == 58 then rest else byte ∷ rest

-- the value, if nothing follows it
abbrev pub whole : {A : Type 0} → A × List ℕ → Option A
whole (x, []) = Some x
whole (x, b ∷ bs) = None

-- the minutes after the hours of an offset
unfoldable pub minutes_at : ℕ → List ℕ → Option ℕ
minutes_at hours [] = Some (hours * 60)
minutes_at hours (byte ∷ rest) = below_at 60 (without_colon (byte ∷ rest))
    >>= (λ minutes. whole (hours * 60 + minutes.0, minutes.1))

-- the minutes of an offset after its sign
unfoldable pub offset_minutes_at : List ℕ → Option ℕ
offset_minutes_at text = below_at 24 text >>= (λ hours. minutes_at hours.0 hours.1)

unfoldable pub offset_at : List ℕ → Option Offset
offset_at [] = Some (record { west = false; minutes = 0 })
offset_at (byte ∷ rest) =
    if byte == 90 then whole (record { west = false; minutes = 0 }, rest)
    else (if byte == 43 then offset_minutes_at rest >>= (λ minutes. Some (record { west = false; minutes = minutes }))
    else (if byte == 45 then offset_minutes_at rest >>= (λ minutes. Some (record { west = true; minutes = minutes }))
    else None))

unfoldable pub parts_at : List ℕ → Option Parts
parts_at text = do
  date ← date_at text
  rest ← after 84 date.1
  second ← clock_at rest
  nanosecond ← fraction_at second.1
  offset ← offset_at nanosecond.1
  Some (record { date = date.0; second = second.0; nanosecond = nanosecond.0; offset = offset })

-- what the fields of a text can say
pub record AreInRange (p : Parts) : Type 0 where
  pub year : p.date.year < 10000
  pub month : p.date.month < 100
  pub day : p.date.day < 100
  pub second : p.second < 86_400
  pub nanosecond : p.nanosecond < 1_000_000_000
  pub minutes : p.offset.minutes < 1440

abbrev pub is_day : ℕ → ℕ → ℕ → Bool
is_day year month day =
    nat_le 1 month && nat_le month 12 && nat_le 1 day && nat_le day (days_in_month (pos year) month)

abbrev pub is_negative_zero : Offset → Bool
is_negative_zero offset = offset.west && (offset.minutes == 0)

abbrev pub instant_of_parts : Parts → ℤ
instant_of_parts p =
    nanoseconds (days_from_civil (pos p.date.year) p.date.month p.date.day) p.second
    (seconds_ahead p.offset.west p.offset.minutes) p.nanosecond

-- the instant of the parts, or the first thing that is wrong with them
abbrev pub judged : Option Parts → Result ℤ TimeRefused
judged None = Err Shape
judged (Some p) =
    if is_day p.date.year p.date.month p.date.day
    then (if is_negative_zero p.offset then Err NegativeZero else Ok (instant_of_parts p)) else Err NoSuchDay

-- the instant that a timestamp names, or why the text is refused
unfoldable pub timestamp_at : List ℕ → Result ℤ TimeRefused
timestamp_at text = judged (parts_at text)

-- ---- durations

-- the number of a field whose digits are read, with its fraction
unfoldable pub quantity_behind : ℕ → Front Quantity
quantity_behind billionths [] = Some (record { billionths = billionths; is_whole = true }, [])
quantity_behind billionths (byte ∷ rest) =
    if is_decimal_sign byte
    then numeral_at 9 rest
    >>= (λ digits. Some (record { billionths = billionths + cut_fraction 9 digits.0; is_whole = false }, digits.1))
    else Some (record { billionths = billionths; is_whole = true }, byte ∷ rest)

-- the number of a field
unfoldable pub quantity_at : Front Quantity
quantity_at text = numeral_at 9 text >>= (λ digits. quantity_behind (digits_value 10 digits.0 * BILLION) digits.1)

abbrev pub is_empty : {A : Type 0} → List A → Bool
is_empty [] = true
is_empty (x ∷ xs) = false

-- the field of the unit, if its letter stands after the number, and nothing after a fraction
abbrev pub unit_behind : ℕ → List ℕ → Option (Quantity × List ℕ) → Option ℕ × List ℕ
unit_behind unit text None = (None, text)
unit_behind unit text (Some (number, [])) = (None, text)
unit_behind unit text (Some (number, letter ∷ rest)) =
    if (letter == unit) && (number.is_whole || is_empty rest) then (Some number.billionths, rest) else (None, text)

-- the field of the unit, if one stands at the beginning, and what follows it
unfoldable pub field_at : ℕ → List ℕ → Option ℕ × List ℕ
field_at unit text = unit_behind unit text (quantity_at text)

-- the fields of the units, one after another
abbrev pub fields_at : List ℕ → List ℕ → List (Option ℕ) × List ℕ
fields_at [] text = ([], text)
fields_at (unit ∷ units) text =
    let field = field_at unit text in
    let others = fields_at units field.1 in
    (field.0 ∷ others.0, others.1)

abbrev pub all_none : List (Option ℕ) → Bool
all_none [] = true
all_none (None ∷ fs) = all_none fs
all_none (Some n ∷ fs) = false

-- the fields, if one of them stands
abbrev pub if_some_field : List (Option ℕ) × List ℕ → Option (List (Option ℕ) × List ℕ)
if_some_field fields = if all_none fields.0 then None else Some fields

-- the fields after a `T`, or none
unfoldable pub clock_fields_at : Front (List (Option ℕ))
clock_fields_at [] = Some (None ∷ None ∷ None ∷ [], [])
clock_fields_at (byte ∷ rest) =
    if byte == 84 then if_some_field (fields_at clock_units rest) else Some (None ∷ None ∷ None ∷ [], byte ∷ rest)

abbrev pub value_at : List (Option ℕ) → ℕ → ℕ
value_at fields i = unwrap_or (slice_index_or fields i None) 0

abbrev pub span_from : List (Option ℕ) → List (Option ℕ) → Span
span_from date clock = record {
  years = value_at date 0;
  months = value_at date 1;
  weeks = value_at date 2;
  days = value_at date 3;
  hours = value_at clock 0;
  minutes = value_at clock 1;
  seconds = value_at clock 2;
}

abbrev pub fields_together : List (Option ℕ) → List (Option ℕ) × List ℕ → Option Span
fields_together date clock =
    if is_empty clock.1 && not (all_none (date ++ clock.0)) then Some (span_from date clock.0) else None

-- what a duration says
unfoldable pub duration_at : List ℕ → Option Span
duration_at text = do
  rest ← after 80 text
  clock ← clock_fields_at (fields_at date_units rest).1
  fields_together (fields_at date_units rest).0 clock
