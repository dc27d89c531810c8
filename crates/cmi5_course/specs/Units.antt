-- What a launch needs of a unit, as its course spells it (cmi5 Quartz, section 13.1.4).
use Rattle.std.specs.Prelude.{ℕ, List, [], ◌&&◌, Bool, codes, option_and_then, unwrap_or}
use Rattle.std.specs.Ordering.{is_le}
use Rattle.lrs_decimal.specs.Range.{is_decimal}
use Rattle.lrs_decimal.specs.Values.{order}
use Rattle.lrs_json.specs.Json.{Json}
use Rattle.lrs_names.specs.Members.{spelling_under, text_under}
use Rattle.cmi5_course.specs.Words.{move_on_of, method_of}
use Rattle.cmi5_course.specs.declared.unit.MoveOn.{MoveOn}
use Rattle.cmi5_course.specs.declared.unit.MoveOn.TheVariants.{NotApplicable}
use Rattle.cmi5_course.specs.declared.unit.Unit.{Unit}
use Rattle.cmi5_course.specs.declared.unit.Method.{Method}
use Rattle.cmi5_course.specs.declared.unit.Method.TheVariants.{AnyWindow}

-- a unit as the store keeps it
abbrev pub AssignableUnit : Type 0
AssignableUnit = Unit

-- ---- numbers from 0 to 1

-- both are numbers in range, and the first isn't greater
unfoldable pub is_at_most : List ℕ → List ℕ → Bool
is_at_most s t = is_decimal s && is_decimal t && is_le (order s t)

-- the spelling of a number from 0 to 1
unfoldable pub is_score : List ℕ → Bool
is_score spelling = is_at_most (codes "0") spelling && is_at_most spelling (codes "1")

-- ---- the unit that a value is

-- what the word under `moveOn` says, `NotApplicable` if there is none
unfoldable pub move_on_in : Json → MoveOn
move_on_in j = unwrap_or (option_and_then move_on_of (text_under (codes "moveOn") j)) NotApplicable

-- what the word under `launchMethod` says, `AnyWindow` if there is none
unfoldable pub method_in : Json → Method
method_in j = unwrap_or (option_and_then method_of (text_under (codes "launchMethod") j)) AnyWindow

unfoldable pub unit_of : Json → AssignableUnit
unit_of j = record {
  url = unwrap_or (text_under (codes "url") j) [];
  move_on = move_on_in j;
  mastery_text = spelling_under (codes "masteryScore") j;
  method = method_in j;
  parameters = text_under (codes "launchParameters") j;
  entitlement = text_under (codes "entitlementKey") j;
}
