-- The same value: equal but for the order of members and the spelling of equal decimals.
use Rattle.std.specs.Prelude.{Bool, true, false, not, ◌&&◌, is_some, if◌then◌else◌}
use Rattle.std.specs.Option.{option_map_or}
use Rattle.std.specs.Ordering.{is_eq}
use Rattle.std.specs.Str.{bytes_eq}
use Rattle.lrs_decimal.specs.Values.{order}
use Rattle.lrs_json.specs.Json.{Json, null, boolean, number, string, array, object, Elements, no_elements, element}
use Rattle.lrs_json.specs.Json.{Members, no_members, member}
use Rattle.lrs_json.specs.Find.{find_member}

-- each name of ms is one of ns
abbrev pub are_named : Members → Members → Bool
are_named no_members ns = true
are_named (member k j ms) ns = is_some (find_member k ns) && are_named ms ns

abbrev mutual
  pub same : Json → Json → Bool
  same null null = true
  same (boolean b) (boolean c) = if b then c else not c
  same (number s) (number t) = is_eq (order s t)
  same (string s) (string t) = bytes_eq s t
  same (array js) (array ks) = same_elements js ks
  same (object ms) (object ns) = same_members ms ns && are_named ns ms
  same _ _ = false

  pub same_elements : Elements → Elements → Bool
  same_elements no_elements no_elements = true
  same_elements (element j js) (element k ks) = same j k && same_elements js ks
  same_elements _ _ = false

  -- under each name of ms there is the same value in ns
  pub same_members : Members → Members → Bool
  same_members no_members ns = true
  same_members (member k j ms) ns = option_map_or (same j) (find_member k ns) false && same_members ms ns
