-- The first member of a name.
use Rattle.std.specs.Prelude.{ℕ, List, Option, Some, None, if◌then◌else◌}
use Rattle.std.specs.Str.{bytes_eq}
use Rattle.lrs_json.specs.Json.{Json, null, boolean, number, string, array, object, Members, no_members, member}

abbrev pub find_member : List ℕ → Members → Option Json
find_member name no_members = None
find_member name (member k j ms) = if bytes_eq k name then Some j else find_member name ms

-- in an object; nothing else has members
abbrev pub find : List ℕ → Json → Option Json
find name null = None
find name (boolean b) = None
find name (number s) = None
find name (string s) = None
find name (array js) = None
find name (object ms) = find_member name ms
