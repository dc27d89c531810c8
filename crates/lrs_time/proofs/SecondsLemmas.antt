-- The text of so many seconds is a duration of them.
use Rattle.std.proofs.Common.{◌≡◌, ℕ, ◌+◌, ◌*◌, ◌/◌, ◌%◌, ◌<◌, ◌≤◌, ◌==◌, inr, List, [], ◌∷◌, ◌++◌, Bool, true, false, Some, None, drop, if◌then◌else◌, refl, sym, ap, ◌∙◌, arith}
use Rattle.std.specs.Fmt.{decimal}
use Rattle.std.specs.Str.Parse.{digits_value}
use Rattle.std.proofs.lemmas.Fmt.{decimal_is_IsNumeral, length-decimal-le}
use Rattle.std.proofs.lemmas.Grind.{common_steps}
use Rattle.std.proofs.lemmas.List.{append-nil}
use Rattle.lrs_time.specs.Digits.{IsNumeral, two_digits, cut_fraction}
use Rattle.lrs_time.specs.Duration.{Amount, IsDecimalPart, billionths, Fields, IsDurationOf, seconds_text, span_of_hundredths}
use Rattle.lrs_time.specs.Reading.{duration_at}
use Rattle.lrs_time.specs.declared.seconds.TheConstants.{LONGEST_SPAN}
use Rattle.lrs_time.proofs.DurationLemmas.{duration_again}
use Rattle.lrs_time.proofs.MomentLemmas.{digit_of}

two_digits_numeral : (n : ℕ) → n < 100 → IsNumeral 9 (two_digits n)
two_digits_numeral n h = record {
  digits = (rw (digit_of (n / 10) (omega arith)) (omega arith), (rw (digit_of (n % 10) (omega arith)) (omega arith), tt));
  some = omega arith;
  few = omega arith;
}

cut_two : (n : ℕ) → n < 100 → cut_fraction 9 (two_digits n) ≡ n * 10_000_000
cut_two n h =
    let value : digits_value 10 (two_digits n) ≡ n = rw (digit_of (n / 10) (omega arith), digit_of (n % 10) (omega arith)) (omega arith) in
    ap (λ v. v * 10_000_000) value

decimal_numeral : (n : ℕ) → n < 1_000_000_000 → IsNumeral 9 (decimal n) × (digits_value 10 (decimal n) ≡ n)
decimal_numeral n h =
    let d = decimal_is_IsNumeral n (omega arith) in
    (record { digits = d.0.1; some = d.0.0; few = length-decimal-le 9 n (omega arith) h (omega arith) }, d.1)

-- a point and the hundredths, or nothing
hundredths_fraction : (n : ℕ) (t : Bool) → (n == 0) ≡ t → n < 100 → (f : List ℕ) × IsDecimalPart f × ((if t then [] else 46 ∷ two_digits n) ≡ f) × (cut_fraction 9 (drop 1 f) ≡ n * 10_000_000)
hundredths_fraction n true t h = let none : n ≡ 0 = grind (arith, common_steps) in ([], tt, refl, rw none refl)
hundredths_fraction n false t h = (46 ∷ two_digits n, (refl, two_digits_numeral n h), refl, cut_two n h)

spelled_with : (ms : ℕ) (text ds f : List ℕ) → IsNumeral 9 ds → digits_value 10 ds ≡ ms / 1000 → IsDecimalPart f → cut_fraction 9 (drop 1 f) ≡ ms % 1000 / 10 * 10_000_000 → text ≡ 80 ∷ 84 ∷ (ds ++ (f ++ (83 ∷ []))) → IsDurationOf text (span_of_hundredths (ms / 10))
spelled_with ms text ds f n value fraction part e =
    let a : Amount = record { digits = ds; fraction = f } in
    let d : Fields = record { years = None; months = None; weeks = None; days = None; hours = None; minutes = None; seconds = Some a } in
    let all : billionths a ≡ ms / 10 * 10_000_000 = rw (value, part) (omega arith) in (
      d,
      record {
        fields = record { amounts = (record { digits = n; fraction = fraction }, tt); some = refl; fraction = (inr refl, tt) };
        spelling = e ∙ ap (λ z. 80 ∷ 84 ∷ z) (sym (append-nil (ds ++ (f ++ (83 ∷ [])))));
      },
      ap (λ (s : ℕ). record { years = 0; months = 0; weeks = 0; days = 0; hours = 0; minutes = 0; seconds = s }) all,
    )

pub seconds_duration : (ms : ℕ) → ms ≤ LONGEST_SPAN → IsDurationOf (seconds_text ms) (span_of_hundredths (ms / 10))
seconds_duration ms h =
    let whole = decimal_numeral (ms / 1000) (omega arith) in
    let part = hundredths_fraction (ms % 1000 / 10) (ms % 1000 / 10 == 0) refl (omega arith) in
    spelled_with ms (seconds_text ms) (decimal (ms / 1000)) part.0 whole.0 whole.1 part.1 part.3 (ap (λ z. 80 ∷ 84 ∷ (decimal (ms / 1000) ++ (z ++ (83 ∷ [])))) part.2)

pub seconds_read_back : (ms : ℕ) → ms ≤ LONGEST_SPAN → duration_at (seconds_text ms) ≡ Some (span_of_hundredths (ms / 10))
seconds_read_back ms h =
    let d = seconds_duration ms h in
    duration_again (seconds_text ms) d.0 d.1 ∙ ap Some d.2
