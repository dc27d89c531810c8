-- What the text of a duration is, and when two durations are the same.
use Rattle.std.specs.Prelude.{◌≡◌, ℕ, ◌+◌, ◌*◌, ◌/◌, ◌%◌, ◌==◌, ◌&&◌, ◌||◌, ◌⊎◌, IsTrue, Bool, true, false, List, []}
use Rattle.std.specs.Prelude.{◌∷◌, ◌++◌, drop, Option, Some, None, option_map, unwrap_or, if◌then◌else◌, codes}
use Rattle.std.specs.Str.Parse.{digits_value}
use Rattle.std.specs.Fmt.{decimal}
use Rattle.lrs_time.specs.Digits.{IsNumeral, cut_fraction, two_digits}
use Rattle.lrs_time.specs.declared.durations.TheConstants.{BILLION}

-- ---- one field

-- a field's number as it is spelled: its digits, and the fraction with its sign
pub record Amount : Type 0 where
  pub digits : List ℕ
  pub fraction : List ℕ

-- a point or a comma
abbrev pub is_decimal_sign : ℕ → Bool
is_decimal_sign byte = (byte == 46) || (byte == 44)

-- nothing, or a decimal sign and one to nine digits
abbrev pub IsDecimalPart : List ℕ → Type 0
IsDecimalPart [] = Unit {0}
IsDecimalPart (byte ∷ ds) = IsTrue (is_decimal_sign byte) × IsNumeral 9 ds

pub record IsAmount (a : Amount) : Type 0 where
  pub digits : IsNumeral 9 a.digits
  pub fraction : IsDecimalPart a.fraction

-- the number in billionths
abbrev pub billionths : Amount → ℕ
billionths a = digits_value 10 a.digits * BILLION + cut_fraction 9 (drop 1 a.fraction)

-- a field that stands is its number and the letter of its unit
abbrev pub field_text : ℕ → Option Amount → List ℕ
field_text unit None = []
field_text unit (Some a) = a.digits ++ (a.fraction ++ (unit ∷ []))

-- a missing field is 0
abbrev pub field_value : Option Amount → ℕ
field_value f = unwrap_or (option_map billionths f) 0

-- ---- fields in a row

-- fields of these units, in this order
abbrev pub fields_text : List ℕ → List (Option Amount) → List ℕ
fields_text [] fs = []
fields_text (unit ∷ units) [] = []
fields_text (unit ∷ units) (f ∷ fs) = field_text unit f ++ fields_text units fs

abbrev pub EachAmount : List (Option Amount) → Type 0
EachAmount [] = Unit {0}
EachAmount (None ∷ fs) = EachAmount fs
EachAmount (Some a ∷ fs) = IsAmount a × EachAmount fs

abbrev pub all_missing : List (Option Amount) → Bool
all_missing [] = true
all_missing (None ∷ fs) = all_missing fs
all_missing (Some a ∷ fs) = false

-- no field stands after one with a fraction
abbrev pub FractionIsLast : List (Option Amount) → Type 0
FractionIsLast [] = Unit {0}
FractionIsLast (None ∷ fs) = FractionIsLast fs
FractionIsLast (Some a ∷ fs) = ((a.fraction ≡ []) ⊎ IsTrue (all_missing fs)) × FractionIsLast fs

-- ---- the whole text

-- what the fields of a duration spell
pub record Fields : Type 0 where
  pub years : Option Amount
  pub months : Option Amount
  pub weeks : Option Amount
  pub days : Option Amount
  pub hours : Option Amount
  pub minutes : Option Amount
  pub seconds : Option Amount

abbrev pub date_fields : Fields → List (Option Amount)
date_fields d = d.years ∷ d.months ∷ d.weeks ∷ d.days ∷ []

abbrev pub clock_fields : Fields → List (Option Amount)
clock_fields d = d.hours ∷ d.minutes ∷ d.seconds ∷ []

-- `Y`, `M`, `W`, `D`
abbrev pub date_units : List ℕ
date_units = 89 ∷ 77 ∷ 87 ∷ 68 ∷ []

-- `H`, `M`, `S`
abbrev pub clock_units : List ℕ
clock_units = 72 ∷ 77 ∷ 83 ∷ []

-- the `T` stands if a field stands after it
abbrev pub clock_text : List (Option Amount) → List ℕ
clock_text fs = if all_missing fs then [] else 84 ∷ fields_text clock_units fs

-- `P`, then nY nM nW nD, then `T` with nH nM nS
abbrev pub duration_text : Fields → List ℕ
duration_text d = 80 ∷ (fields_text date_units (date_fields d) ++ clock_text (clock_fields d))

pub record IsDuration (d : Fields) : Type 0 where
  pub amounts : EachAmount (date_fields d ++ clock_fields d)
  pub some : all_missing (date_fields d ++ clock_fields d) ≡ false
  pub fraction : FractionIsLast (date_fields d ++ clock_fields d)

-- the text is a duration with these fields
pub record SpellsDuration (text : List ℕ) (d : Fields) : Type 0 where
  pub fields : IsDuration d
  pub spelling : text ≡ duration_text d

-- ---- what a duration says

-- seven numbers, each in billionths of its unit
pub record Span : Type 0 where
  pub years : ℕ
  pub months : ℕ
  pub weeks : ℕ
  pub days : ℕ
  pub hours : ℕ
  pub minutes : ℕ
  pub seconds : ℕ

abbrev pub span_of : Fields → Span
span_of d = record {
  years = field_value d.years;
  months = field_value d.months;
  weeks = field_value d.weeks;
  days = field_value d.days;
  hours = field_value d.hours;
  minutes = field_value d.minutes;
  seconds = field_value d.seconds;
}

abbrev pub IsNoDuration : List ℕ → Type 0
IsNoDuration text = (d : Fields) → ¬ (SpellsDuration text d)

-- the text is a duration that says this
abbrev pub IsDurationOf : List ℕ → Span → Type 0
IsDurationOf text span = (d : Fields) × SpellsDuration text d × (span_of d ≡ span)

-- ---- sameness

-- whole hundredths of a number in billionths: what is less is cut off
abbrev pub hundredths : ℕ → ℕ
hundredths n = n / 10_000_000

-- All fields agree, the seconds to the hundredth. A minute is another field than sixty seconds.
pub record IsSameSpan (a b : Span) : Type 0 where
  pub years : a.years ≡ b.years
  pub months : a.months ≡ b.months
  pub weeks : a.weeks ≡ b.weeks
  pub days : a.days ≡ b.days
  pub hours : a.hours ≡ b.hours
  pub minutes : a.minutes ≡ b.minutes
  pub seconds : hundredths a.seconds ≡ hundredths b.seconds

-- the same as a test
abbrev pub same_span : Span → Span → Bool
same_span a b =
    (a.years == b.years) && (a.months == b.months) && (a.weeks == b.weeks) && (a.days == b.days)
    && (a.hours == b.hours) && (a.minutes == b.minutes)
    && (hundredths a.seconds == hundredths b.seconds)

-- ---- seconds

-- the hundredths after a point, if they aren't 0
abbrev pub hundredths_text : ℕ → List ℕ
hundredths_text n = if n == 0 then [] else 46 ∷ two_digits n

-- `PT`, the whole seconds, the hundredths, `S`, of milliseconds
abbrev pub seconds_text : ℕ → List ℕ
seconds_text ms =
    codes "PT" ++ (decimal (ms / 1000) ++ (hundredths_text (ms % 1000 / 10) ++ codes "S"))

-- a duration of that many hundredths of seconds, in seconds alone
abbrev pub span_of_hundredths : ℕ → Span
span_of_hundredths n = record {
  years = 0;
  months = 0;
  weeks = 0;
  days = 0;
  hours = 0;
  minutes = 0;
  seconds = n * 10_000_000;
}
