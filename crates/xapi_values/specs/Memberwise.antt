-- The members of an object, one by one.
use Rattle.std.specs.Prelude.{ℕ, List}
use Rattle.lrs_json.specs.Json.{Json, null, boolean, number, string, array, object, Members, no_members, member}

-- what a function makes of each member's value, by its name
abbrev pub each_member : (List ℕ → Json → Json) → Members → Members
each_member change no_members = no_members
each_member change (member name j ms) = member name (change name j) (each_member change ms)

-- the same of an object
abbrev pub with_each_member : (List ℕ → Json → Json) → Json → Json
with_each_member change null = null
with_each_member change (boolean b) = boolean b
with_each_member change (number s) = number s
with_each_member change (string s) = string s
with_each_member change (array js) = array js
with_each_member change (object ms) = object (each_member change ms)
