-- The form of a statement with ids alone (xAPI 1.0.3, part three, section 2.1.3): of each Agent, Group, Activity and
-- verb what tells which one it is. All else stays as it is.
use Rattle.std.specs.Prelude.{ℕ, List, [], ◌∷◌, Bool, ◌&&◌, ◌||◌, not, codes, if◌then◌else◌}
use Rattle.std.specs.List.{list_any}
use Rattle.std.specs.Str.{bytes_eq}
use Rattle.lrs_json.specs.Json.{Json, null, boolean, number, string, array, object, Elements, no_elements, element}
use Rattle.lrs_json.specs.Json.{Members, no_members, member}
use Rattle.xapi_format.specs.LrsAgentsAgents.{identifiers}
use Rattle.lrs_names.specs.Members.{has_member, is_one_of}
use Rattle.xapi_values.specs.Kinds.{kind_of, same_kind}
use Rattle.xapi_values.specs.declared.kinds.Kind.{Kind}
use Rattle.xapi_values.specs.Memberwise.{with_each_member}
use Rattle.xapi_values.specs.Nested.{is_nested}

-- ---- parts of values

-- the members of these names, in their order
abbrev pub only : List (List ℕ) → Members → Members
only names no_members = no_members
only names (member name j ms) = if is_one_of names name then member name j (only names ms) else only names ms

-- the same of an object
abbrev pub with_only : List (List ℕ) → Json → Json
with_only names null = null
with_only names (boolean b) = boolean b
with_only names (number s) = number s
with_only names (string s) = string s
with_only names (array js) = array js
with_only names (object ms) = object (only names ms)

-- what a function makes of each item
abbrev pub each_item : (Json → Json) → Elements → Elements
each_item change no_elements = no_elements
each_item change (element j js) = element (change j) (each_item change js)

-- the same of an array
abbrev pub with_each_item : (Json → Json) → Json → Json
with_each_item change null = null
with_each_item change (boolean b) = boolean b
with_each_item change (number s) = number s
with_each_item change (string s) = string s
with_each_item change (array js) = array (each_item change js)
with_each_item change (object ms) = object ms

-- ---- Agents and Groups

abbrev pub agent_names : List (List ℕ)
agent_names = codes "objectType" ∷ identifiers

-- an Agent, or a Group that has an identifier
abbrev pub reduced_agent : Json → Json
reduced_agent j = with_only agent_names j

abbrev pub has_identifier : Json → Bool
has_identifier j = list_any (λ name. has_member name j) identifiers

-- a Group that is known by its members alone
abbrev pub is_anonymous : Json → Bool
is_anonymous j = same_kind (kind_of j) Kind.Group && not (has_identifier j)

abbrev pub reduced_group_member : List ℕ → Json → Json
reduced_group_member name j = if bytes_eq name (codes "member") then with_each_item reduced_agent j else j

abbrev pub group_names : List (List ℕ)
group_names = codes "objectType" ∷ codes "member" ∷ []

abbrev pub reduced_group : Json → Json
reduced_group j = with_each_member reduced_group_member (with_only group_names j)

unfoldable pub reduced_party : Json → Json
reduced_party j = if is_anonymous j then reduced_group j else reduced_agent j

-- ---- Activities and verbs

abbrev pub activity_names : List (List ℕ)
activity_names = codes "objectType" ∷ codes "id" ∷ []

abbrev pub reduced_activity : Json → Json
reduced_activity j = with_only activity_names j

-- context activities of one name, which a completed statement has in an array
abbrev pub reduced_activities : List ℕ → Json → Json
reduced_activities name j = with_each_item reduced_activity j

abbrev pub reduced_verb : Json → Json
reduced_verb j = with_only (codes "id" ∷ []) j

-- ---- statements

abbrev pub reduced_context_member : List ℕ → Json → Json
reduced_context_member name j =
    if bytes_eq name (codes "instructor") || bytes_eq name (codes "team") then reduced_party j
    else (if bytes_eq name (codes "contextActivities") then with_each_member reduced_activities j else j)

abbrev pub reduced_context : Json → Json
reduced_context j = with_each_member reduced_context_member j

-- a member other than the object, of a statement or a SubStatement
abbrev pub reduced_part : List ℕ → Json → Json
reduced_part name j =
    if bytes_eq name (codes "actor") then reduced_party j else (if bytes_eq name (codes "verb") then reduced_verb j
    else (if bytes_eq name (codes "context") then reduced_context j else j))

abbrev pub reduced_by_kind : Kind → Json → Json
reduced_by_kind Kind.Unstated j = reduced_activity j
reduced_by_kind Kind.Activity j = reduced_activity j
reduced_by_kind Kind.Agent j = reduced_party j
reduced_by_kind Kind.Group j = reduced_party j
reduced_by_kind Kind.StatementRef j = j
reduced_by_kind Kind.SubStatement j = j
reduced_by_kind Kind.Other j = j

-- an object that is no SubStatement
abbrev pub reduced_plain_object : Json → Json
reduced_plain_object j = reduced_by_kind (kind_of j) j

abbrev pub reduced_nested_member : List ℕ → Json → Json
reduced_nested_member name j = if bytes_eq name (codes "object") then reduced_plain_object j else reduced_part name j

unfoldable pub reduced_object : Json → Json
reduced_object j = if is_nested j then with_each_member reduced_nested_member j else reduced_plain_object j

abbrev pub reduced_member : List ℕ → Json → Json
reduced_member name j =
    if bytes_eq name (codes "object") then reduced_object j
    else (if bytes_eq name (codes "authority") then reduced_party j else reduced_part name j)

-- The form of a completed statement with ids alone.
unfoldable pub reduced : Json → Json
reduced j = with_each_member reduced_member j
