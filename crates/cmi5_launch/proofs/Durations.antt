-- The text of a duration is ASCII, and is read as a duration.
use Rattle.std.proofs.Common.{◌≡◌, ℕ, ◌+◌, ◌/◌, ◌%◌, ◌^◌, ◌<◌, ◌≤◌, ◌==◌, ◌++◌, ◌∷◌, [], Bool, true, false, min, is_some, IsUtf8, codes, ap, arith}
use Rattle.std.specs.Fmt.{decimal}
use Rattle.std.specs.Prelude.{if◌then◌else◌}
use Rattle.std.specs.Str.{IsAscii}
use Rattle.std.proofs.lemmas.Fmt.{IsAscii-decimal}
use Rattle.std.proofs.lemmas.Str.{IsAscii-append, IsUtf8-from_ascii}
use Rattle.std.proofs.lemmas.Str.Ascii.{IsAscii-cons, IsAscii-nil}
use Rattle.lrs_time.specs.Digits.{two_digits}
use Rattle.lrs_time.specs.Duration.{hundredths_text, seconds_text}
use Rattle.lrs_time.specs.Reading.{duration_at}
use Rattle.lrs_time.proofs.SecondsLemmas.{seconds_read_back}
use Rattle.cmi5_launch.specs.Made.{span_text}
use Rattle.lrs_time.specs.declared.seconds.TheConstants.{LONGEST_SPAN}

letters : IsAscii (codes "PT")
letters = IsAscii-cons 80 (84 ∷ []) (omega arith) (IsAscii-cons 84 [] (omega arith) IsAscii-nil)

last : IsAscii (codes "S")
last = IsAscii-cons 83 [] (omega arith) IsAscii-nil

hundredths_are : (n : ℕ) → n < 100 → IsAscii (hundredths_text n)
hundredths_are n small = by_test (n == 0)
  where
    by_test : (b : Bool) → IsAscii (if b then [] else 46 ∷ two_digits n)
    by_test true = IsAscii-nil
    by_test false =
        IsAscii-cons 46 (two_digits n) (omega arith) (IsAscii-cons (48 + n / 10) ((48 + n % 10) ∷ []) (omega arith) (IsAscii-cons (48 + n % 10) [] (omega arith) IsAscii-nil))

seconds_are : (ms : ℕ) → ms ≤ LONGEST_SPAN → IsAscii (seconds_text ms)
seconds_are ms small =
    let seconds : ms / 1000 < 2 ^ 64 = omega arith in
    let rest = hundredths_text (ms % 1000 / 10) ++ codes "S" in
    IsAscii-append (codes "PT") (decimal (ms / 1000) ++ rest) letters
    (IsAscii-append (decimal (ms / 1000)) rest (IsAscii-decimal (ms / 1000) seconds)
    (IsAscii-append (hundredths_text (ms % 1000 / 10)) (codes "S") (hundredths_are (ms % 1000 / 10) (omega arith)) last))

within : (ms : ℕ) → min ms LONGEST_SPAN ≤ LONGEST_SPAN
within ms = omega arith

pub duration_is_text : (ms : ℕ) → IsUtf8 (span_text ms)
duration_is_text ms = IsUtf8-from_ascii (span_text ms) (seconds_are (min ms LONGEST_SPAN) (within ms))

pub duration_is_one : (ms : ℕ) → is_some (duration_at (span_text ms)) ≡ true
duration_is_one ms = ap is_some (seconds_read_back (min ms LONGEST_SPAN) (within ms))
