-- An Agent or a Group, by its identifiers and those of its members (xAPI 1.0.3, part two, section 2.4.2.3).
use Rattle.std.specs.Prelude.{Bool, false, ◌||◌, codes}
use Rattle.std.specs.Option.{option_map_or}
use Rattle.lrs_json.specs.Json.{Json, Elements, no_elements, element}
use Rattle.xapi_values.specs.LrsNamesMembers.{has_member_that}
use Rattle.lrs_json.specs.Parts.{items_of}
use Rattle.lrs_agents.specs.Identifiers.{identifier_of, same_ifi}
use Rattle.lrs_agents.specs.declared.identifiers.Ifi.{Ifi}

-- the agent or group has that identifier
unfoldable pub is_identified : Ifi → Json → Bool
is_identified ifi j = option_map_or (same_ifi ifi) (identifier_of j) false

abbrev pub any_identified : Ifi → Elements → Bool
any_identified ifi no_elements = false
any_identified ifi (element j js) = is_identified ifi j || any_identified ifi js

abbrev pub has_identified : Ifi → Json → Bool
has_identified ifi j = any_identified ifi (items_of j)

-- it has that identifier, or one of its members does
unfoldable pub is_party : Ifi → Json → Bool
is_party ifi j = is_identified ifi j || has_member_that (codes "member") (has_identified ifi) j
