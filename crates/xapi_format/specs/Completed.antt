-- The completed form of a statement: as it was received, with what the store adds (xAPI 1.0.3, part two, section 2.4).
use Rattle.std.specs.Prelude.{ℕ, List, [], ◌∷◌, unwrap_or, codes, if◌then◌else◌}
use Rattle.std.specs.Str.{bytes_eq}
use Rattle.lrs_json.specs.Json.{Json, null, boolean, number, string, array, object, no_elements, element, Members}
use Rattle.lrs_json.specs.Json.{no_members, member}
use Rattle.lrs_json.specs.Find.{find}
use Rattle.lrs_json.specs.View.{members_of}
use Rattle.xapi_values.specs.LrsNamesIds.{id_text}
use Rattle.xapi_values.specs.LrsNamesMembers.{is_one_of}
use Rattle.xapi_values.specs.Memberwise.{with_each_member}
use Rattle.xapi_values.specs.Nested.{is_nested}

-- ---- context activities (section 2.4.6.2)

-- one activity alone is made an array of one
abbrev pub in_array : Json → Json
in_array null = null
in_array (boolean b) = boolean b
in_array (number s) = number s
in_array (string s) = string s
in_array (array js) = array js
in_array (object ms) = array (element (object ms) no_elements)

-- context activities of one name
abbrev pub plural_activities_member : List ℕ → Json → Json
plural_activities_member name j = in_array j

-- a context, each of its context activities in an array
abbrev pub plural_context_member : List ℕ → Json → Json
plural_context_member name j =
    if bytes_eq name (codes "contextActivities") then with_each_member plural_activities_member j else j

-- a SubStatement, which has a context of its own
abbrev pub plural_nested_member : List ℕ → Json → Json
plural_nested_member name j = if bytes_eq name (codes "context") then with_each_member plural_context_member j else j

-- the object of a statement
abbrev pub plural_object : Json → Json
plural_object j = if is_nested j then with_each_member plural_nested_member j else j

-- ---- the whole

-- the members that the store writes itself
abbrev pub added_names : List (List ℕ)
added_names = codes "id" ∷ codes "timestamp" ∷ codes "stored" ∷ codes "authority" ∷ codes "version" ∷ []

abbrev pub plural_member : List ℕ → Json → Json
plural_member name j =
    if bytes_eq name (codes "context") then with_each_member plural_context_member j
    else (if bytes_eq name (codes "object") then plural_object j else j)

-- the other members in their order, and these after them
abbrev pub kept_before : Members → Members → Members
kept_before no_members behind = behind
kept_before (member name j ms) behind =
    if is_one_of added_names name then kept_before ms behind
    else member name (plural_member name j) (kept_before ms behind)

-- the member of that name as it was given, else this text
abbrev pub given_or : List ℕ → Json → List ℕ → Json
given_or name received otherwise = unwrap_or (find name received) (string otherwise)

abbrev pub added_last : Json → Json → Members
added_last received authority = members_of
    ((codes "authority", authority) ∷ (codes "version", given_or (codes "version") received (codes "1.0.0")) ∷ [])

-- The time at which it happened is the one that was given, else the stored moment.
abbrev pub added_behind_id : Json → List ℕ → Json → Members
added_behind_id received stored authority =
    member (codes "timestamp") (given_or (codes "timestamp") received stored)
    (member (codes "stored") (string stored) (added_last received authority))

-- What the store writes after them.
abbrev pub added : Json → List ℕ → List ℕ → Json → Members
added received id stored authority =
    member (codes "id") (string (id_text id)) (added_behind_id received stored authority)

-- The completed form of a received statement: under an id, with the text of its stored moment and an authority.
unfoldable pub completed : Json → List ℕ → List ℕ → Json → Json
completed null id stored authority = null
completed (boolean b) id stored authority = boolean b
completed (number s) id stored authority = number s
completed (string s) id stored authority = string s
completed (array js) id stored authority = array js
completed (object ms) id stored authority = object (kept_before ms (added (object ms) id stored authority))
