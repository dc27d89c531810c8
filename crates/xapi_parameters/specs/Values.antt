-- What each parameter's value has to be.
use Rattle.std.specs.Prelude.{◌≡◌, ℕ, nat_le, Bool, ◌&&◌, ◌||◌, List, length, Some, None, codes, is_some, is_ok}
use Rattle.std.specs.Char.{is_ascii_digit}
use Rattle.std.specs.List.{list_all}
use Rattle.std.specs.Str.{bytes_eq}
use Rattle.lrs_json.specs.Json.{Json}
use Rattle.lrs_json.specs.declared.limits.TheConstants.{DEPTH}
use Rattle.lrs_json_reader.specs.Refusals.{Spells}
use Rattle.lrs_agents.specs.Agents.{agent_or_group_faults}
use Rattle.lrs_agents.specs.Identifiers.{identifier_of}
use Rattle.lrs_agents.specs.declared.identifiers.Ifi.{Ifi}
use Rattle.lrs_names.specs.Ids.{id_of}
use Rattle.lrs_names.specs.Rules.{least}
use Rattle.lrs_time.specs.Reading.{timestamp_at}
use Rattle.xapi_parameters.specs.declared.asked.TheConstants.{MOST_LINK_DIGITS}
use Rattle.xapi_parameters.specs.declared.values.TheConstants.{MOST_LIMIT_DIGITS}

-- the hyphenated form of a UUID (RFC 4122, section 3)
abbrev pub is_id : List ℕ → Bool
is_id text = is_some (id_of text)

-- JSON of an agent, or of a group, with this identifier
abbrev pub IsActorOf : List ℕ → Ifi → Type 0
IsActorOf text ifi = (j : Json) × Spells DEPTH text j × (least (agent_or_group_faults 6 j) ≡ None)
    × (identifier_of j ≡ Some ifi)

abbrev pub IsActor : List ℕ → Type 0
IsActor text = (ifi : Ifi) × IsActorOf text ifi

abbrev pub is_truth : List ℕ → Bool
is_truth text = bytes_eq text (codes "true") || bytes_eq text (codes "false")

-- a timestamp (xAPI 1.0.3, part two, section 4.5)
abbrev pub is_timestamp : List ℕ → Bool
is_timestamp text = is_ok (timestamp_at text)

-- digits, at least one and at most `MOST_LIMIT_DIGITS`
abbrev pub is_limit : List ℕ → Bool
is_limit text = nat_le 1 (length text) && nat_le (length text) MOST_LIMIT_DIGITS && list_all is_ascii_digit text

abbrev pub is_format : List ℕ → Bool
is_format text = bytes_eq text (codes "exact") || bytes_eq text (codes "ids")

abbrev pub is_no : List ℕ → Bool
is_no text = bytes_eq text (codes "false")

-- a number in a more link, `asof` or `after`: digits, at least one and at most `MOST_LINK_DIGITS`
abbrev pub is_link_number : List ℕ → Bool
is_link_number text = nat_le 1 (length text) && nat_le (length text) MOST_LINK_DIGITS && list_all is_ascii_digit text
