-- Numbers as words spell them.
use Rattle.std.proofs.Common.{◌≡◌, ℕ, ◌<◌, ◌^◌, List, length, true, Result, Err, subst, arith, rules}
use Rattle.std.specs.Result.{OkIff}
use Rattle.std.specs.Char.{is_ascii_digit}
use Rattle.std.specs.List.{list_all}
use Rattle.std.specs.Str.Parse.{digits_value, ParsesUnsigned}
use Rattle.std.proofs.lemmas.Str.Parse.{IsNumeralModel, IsDigitsTest, numerals_by_value, parse_digits}
use Rattle.lrs_command_line.specs.CommandLine.{IsNumberWord, IsNumberIn}

digits_test : IsDigitsTest (λ ds. list_all is_ascii_digit ds ≡ true)
digits_test = search rules

numerals : IsNumeralModel (λ ds. list_all is_ascii_digit ds ≡ true) (digits_value 10)
numerals = numerals_by_value _ digits_test

-- what parse makes of a number
pub parsed : {E : Type 0} (word : List ℕ) (r : Result ℕ E) → ParsesUnsigned 64 10 word r → IsNumberWord word → OkIff r ((0 < length word) × (digits_value 10 word < 2 ^ 64)) (digits_value 10 word)
parsed word r h number = parse_digits numerals 64 word r h number.digits

-- a number that isn't parsed is of no range
pub unread : {E : Type 0} (word text : List ℕ) (r : Result ℕ E) (error : E) (from to : ℕ) → to < 2 ^ 64 → text ≡ word → r ≡ Err error → ParsesUnsigned 64 10 text r
    → IsNumberIn from to word → ⊥
unread word text r error from to small same failed h limit =
    parsed word (Err error) (subst (λ t. ParsesUnsigned 64 10 t (Err error)) same (subst (λ s. ParsesUnsigned 64 10 text s) failed h)) limit.number
    (limit.number.some, omega (arith, small, limit.most))
