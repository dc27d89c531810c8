-- The names of rules, what it is to break a rule on JSON, and the numbers of editions.
use Rattle.std.specs.Prelude.{◌≡◌, ◌⊎◌, ℕ, Bool, ◌&&◌, nat_le, nat_lt, List, ◌∷◌, IsTrue, Option, Some, None}
use Rattle.std.specs.Fmt.{decimal}
use Rattle.lrs_json_reader.specs.declared.reading.ReadRefused.{ReadRefused}
use Rattle.lrs_json_reader.specs.declared.reading.ReadRefused.TheVariants as read
use Rattle.lrs_json_reader.specs.Refusals.{IsBad, OutOfRangeAt, RepeatedAt, is_too_deep}
use Rattle.lrs_rules.specs.declared.limits.TheConstants.{MOST_EDITION}
use Rattle.lrs_rules.specs.declared.rule.Rule.{Rule}
use Rattle.lrs_rules.specs.declared.rule.Rule.TheVariants.{A, B, C, F, J, K, P, S, T}
use Rattle.lrs_json.specs.declared.limits.TheConstants.{DEPTH}

-- the letter of its family, A, B, C, F, J, K, P, S or T, by its code in ASCII
abbrev pub letter_of : Rule → ℕ
letter_of (A n) = 65
letter_of (B n) = 66
letter_of (C n) = 67
letter_of (F n) = 70
letter_of (J n) = 74
letter_of (K n) = 75
letter_of (P n) = 80
letter_of (S n) = 83
letter_of (T n) = 84

abbrev pub number_of : Rule → ℕ
number_of (A n) = n
number_of (B n) = n
number_of (C n) = n
number_of (F n) = n
number_of (J n) = n
number_of (K n) = n
number_of (P n) = n
number_of (S n) = n
number_of (T n) = n

-- its letter and its number, such as S4
abbrev pub rule_text : Rule → List ℕ
rule_text rule = letter_of rule ∷ decimal (number_of rule)

-- The rules on JSON, in their order: the depth, the grammar, repeated names, the range of numbers.
abbrev pub BreaksJson : List ℕ → Rule → Type 0
BreaksJson bytes r =
    ((r ≡ J 1) × IsTrue (is_too_deep DEPTH bytes))
    ⊎ (((r ≡ J 2) × IsBad DEPTH bytes)
    ⊎ (((r ≡ J 3) × ((offset : ℕ) × RepeatedAt DEPTH bytes offset))
    ⊎ ((r ≡ J 4) × ((offset : ℕ) × OutOfRangeAt DEPTH bytes offset))))

-- the rule that a refusal means; none means that memory ran out
abbrev pub json_rule : ReadRefused → Option Rule
json_rule read.TooDeep = Some (J 1)
json_rule read.Bad = Some (J 2)
json_rule (read.Repeated offset) = Some (J 3)
json_rule (read.NumberRange offset) = Some (J 4)
json_rule read.Memory = None

-- a number by which an enrolment may name an edition: 1 to 9 digits, not beginning with 0
abbrev pub is_edition_number : ℕ → Bool
is_edition_number number = nat_lt 0 number && nat_le number MOST_EDITION
