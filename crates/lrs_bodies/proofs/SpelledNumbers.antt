-- The numbers that digits spell.
use Rattle.std.proofs.Common.{◌≡◌, ℕ, ◌^◌, ◌<◌, ◌≤◌, ◌&&◌, true, List, length, None, Err, refl, arith, rules, inl, inr}
use Rattle.std.specs.Prelude.{nat_le, nat_lt}
use Rattle.std.specs.Char.{is_ascii_digit}
use Rattle.std.specs.List.{list_all}
use Rattle.std.specs.Str.Parse.{digits_value, ParsesUnsigned}
use Rattle.std.proofs.lemmas.Bool.{and_parts, cases_Bool}
use Rattle.std.proofs.lemmas.Bool.Decides.{nat_tests}
use Rattle.std.proofs.lemmas.Str.Parse.{IsDigitsTest, IsNumeralModel, numerals_by_value, parse_digits}
use Rattle.lrs_bodies.specs.DeskBodies.{number_between}

digits_test : IsDigitsTest (λ ds. list_all is_ascii_digit ds ≡ true)
digits_test = search rules

numerals : IsNumeralModel (λ ds. list_all is_ascii_digit ds ≡ true) (digits_value 10)
numerals = numerals_by_value _ digits_test

-- digits that aren't read spell too much
pub number_unread : {E : Type 0} (lowest highest : ℕ) (spelling : List ℕ) (e : E) → highest < 2 ^ 32 → list_all is_ascii_digit spelling ≡ true → ParsesUnsigned 32 10 spelling (Err e)
    → None ≡ number_between lowest highest spelling
number_unread lowest highest spelling e short digits parsed =
    let value = digits_value 10 spelling in
    let never : (0 < length spelling) × (value < 2 ^ 32) → ⊥ = parse_digits numerals 32 spelling (Err e) parsed digits in
    elim (cases_Bool (nat_lt 0 (length spelling) && nat_le lowest value && nat_le value highest)) [
      | inl is ↦
          let parts = and_parts (nat_lt 0 (length spelling) && nat_le lowest value) (nat_le value highest) is in
          let begun = and_parts (nat_lt 0 (length spelling)) (nat_le lowest value) parts.0 in
          let some : 0 < length spelling = grind (arith, nat_tests, begun.0) in
          let small : value ≤ highest = grind (arith, nat_tests, parts.1) in
          absurd (never (some, omega (arith, small, short)))
      | inr not ↦ rw (digits, not) refl
    ]
