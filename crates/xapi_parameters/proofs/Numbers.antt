-- Numbers of a few digits.
use Rattle.std.proofs.Common.{◌≡◌, ℕ, ◌≤◌, ◌&&◌, nat_le, true, false, List, [], ◌∷◌, length, Option, Some, None, arith, ap, ◌∙◌}
use Rattle.std.specs.Char.{is_ascii_digit}
use Rattle.std.specs.List.{list_all}
use Rattle.std.specs.Str.Parse.{AllDigits}
use Rattle.std.specs.Option.{option_map_or}
use Rattle.std.proofs.lemmas.Bool.{and_parts}
use Rattle.std.proofs.lemmas.Bool.Decides.{nat_tests}
use Rattle.xapi_parameters.specs.Values.{is_limit, is_link_number}
use Rattle.xapi_parameters.specs.declared.asked.TheConstants.{MOST_LINK_DIGITS}
use Rattle.xapi_parameters.specs.declared.values.TheConstants.{MOST_LIMIT_DIGITS}
use Rattle.lrs_time.proofs.DigitLemmas.{test_digit}

digits_from_test : (ds : List ℕ) → list_all is_ascii_digit ds ≡ true → AllDigits 10 ds
digits_from_test [] all = tt
digits_from_test (d ∷ ds) all =
    let parts = and_parts (is_ascii_digit d) (list_all is_ascii_digit ds) all in
    (test_digit d parts.0, digits_from_test ds parts.1)

-- what the test of a number of at most so many digits says
pub few_digits : (most : ℕ) (text : List ℕ) → (nat_le 1 (length text) && nat_le (length text) most && list_all is_ascii_digit text) ≡ true → AllDigits 10 text × (length text ≤ most)
few_digits most text is =
    let parts = and_parts (nat_le 1 (length text) && nat_le (length text) most) (list_all is_ascii_digit text) is in
    let both = and_parts (nat_le 1 (length text)) (nat_le (length text) most) parts.0 in
    let few : length text ≤ most = let test = both.1 in grind (arith, nat_tests) in
    (digits_from_test text parts.1, few)

-- of a text that is given as a number of a link, and as a limit

pub number_digits : (value : Option (List ℕ)) (text bytes : List ℕ) → Some text ≡ value → bytes ≡ text → option_map_or is_link_number value false ≡ true → AllDigits 10 bytes × (length bytes ≤ 19)
number_digits None text bytes is lent test = absurd (cc is)
number_digits (Some t) text bytes is lent test =
    let same : bytes ≡ t = lent ∙ cc is in
    let passed : is_link_number bytes ≡ true = ap is_link_number same ∙ test in
    let few = few_digits MOST_LINK_DIGITS bytes passed in
    (few.0, omega (arith, few.1))

pub limit_digits : (value : Option (List ℕ)) (text bytes : List ℕ) → Some text ≡ value → bytes ≡ text → option_map_or is_limit value true ≡ true → AllDigits 10 bytes × (length bytes ≤ 19)
limit_digits None text bytes is lent test = absurd (cc is)
limit_digits (Some t) text bytes is lent test =
    let same : bytes ≡ t = lent ∙ cc is in
    let passed : is_limit bytes ≡ true = ap is_limit same ∙ test in
    let few = few_digits MOST_LIMIT_DIGITS bytes passed in
    (few.0, omega (arith, few.1))
