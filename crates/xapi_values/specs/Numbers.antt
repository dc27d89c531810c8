-- Numbers as the rules on scores and attachments ask of them, by their exact values.
use Rattle.std.specs.Prelude.{◌≡◌, IsTrue, ℕ, List, [], ◌∷◌, Bool, true, false, ◌&&◌, Option, Some, None}
use Rattle.std.specs.Prelude.{codes, if◌then◌else◌}
use Rattle.std.specs.Option.{option_map_or}
use Rattle.std.specs.Ordering.{is_eq, is_lt, is_le}
use Rattle.std.specs.declared.cmp.Ordering.{Ordering}
use Rattle.lrs_json.specs.LrsDecimalNumbers.{IsNumber}
use Rattle.lrs_json.specs.LrsDecimalRange.{is_decimal, is_in_range, is_whole}
use Rattle.lrs_json.specs.LrsDecimalValues.{order}
use Rattle.lrs_json.specs.Json.{Json, number}
use Rattle.lrs_names.specs.Members.{has_only, if_member, spelling_of, spelling_under}

-- a number in range, as it is written
abbrev pub IsNumberInRange : Json → Type 0
IsNumberInRange j = (spelling : List ℕ) × (j ≡ number spelling) × IsNumber spelling × IsTrue (is_in_range spelling)

-- The same as a test: the clause `written` of the function `is_number` proves that they agree.
abbrev pub is_number : Json → Bool
is_number j = option_map_or is_decimal (spelling_of j) false

-- both are numbers in range, of one value
abbrev pub are_equal : List ℕ → List ℕ → Bool
are_equal s t = is_decimal s && is_decimal t && is_eq (order s t)

-- how two numbers lie, if both are such
unfoldable pub compared : List ℕ → List ℕ → Option Ordering
compared s t = if is_decimal s && is_decimal t then Some (order s t) else None

-- the first is less than the second, if both stand
unfoldable pub is_below : Option (List ℕ) → Option (List ℕ) → Bool
is_below None t = true
is_below (Some s) None = true
is_below (Some s) (Some t) = option_map_or is_lt (compared s t) true

-- the first isn't greater than the second, if both stand
unfoldable pub is_not_above : Option (List ℕ) → Option (List ℕ) → Bool
is_not_above None t = true
is_not_above (Some s) None = true
is_not_above (Some s) (Some t) = option_map_or is_le (compared s t) true

-- a whole number that isn't negative
unfoldable pub is_natural : List ℕ → Bool
is_natural spelling = is_decimal spelling && is_whole spelling && is_not_above (Some (codes "0")) (Some spelling)

abbrev pub is_count : Json → Bool
is_count j = option_map_or is_natural (spelling_of j) false

unfoldable pub are_numbers : Json → Bool
are_numbers j =
    if_member (codes "scaled") is_number j && if_member (codes "raw") is_number j && if_member (codes "min") is_number j
    && if_member (codes "max") is_number j

-- `scaled` is from -1 to 1, `min` is less than `max`, and `raw` isn't outside of them
unfoldable pub are_in_order : Json → Bool
are_in_order j =
    is_not_above (Some (codes "-1")) (spelling_under (codes "scaled") j)
    && is_not_above (spelling_under (codes "scaled") j) (Some (codes "1"))
    && is_below (spelling_under (codes "min") j) (spelling_under (codes "max") j)
    && is_not_above (spelling_under (codes "min") j) (spelling_under (codes "raw") j)
    && is_not_above (spelling_under (codes "raw") j) (spelling_under (codes "max") j)

-- Rule 26 (section 2.4.5.1): only `scaled`, `raw`, `min` and `max`, all numbers, and in their order.
unfoldable pub is_score : Json → Bool
is_score j = has_only (codes "scaled" ∷ codes "raw" ∷ codes "min" ∷ codes "max" ∷ []) j && are_numbers j
    && are_in_order j
