-- The form with ids alone of the completed form, in one step from what was received.
use Rattle.std.specs.Prelude.{ℕ, List, [], ◌∷◌, ◌||◌, codes, if◌then◌else◌}
use Rattle.std.specs.Str.{bytes_eq}
use Rattle.lrs_json.specs.Json.{Json, Members, no_members, member}
use Rattle.lrs_names.specs.Members.{is_one_of}
use Rattle.xapi_format.specs.Completed.{added_names, in_array}
use Rattle.xapi_values.specs.Memberwise.{with_each_member}
use Rattle.xapi_values.specs.Nested.{is_nested}
use Rattle.xapi_reduced.specs.Reduced.{activity_names, agent_names, group_names, reduced_activity}
use Rattle.xapi_reduced.specs.Reduced.{reduced_party, reduced_plain_object, reduced_verb, with_each_item}
use Rattle.xapi_reduced.specs.declared.names.KeptNames.{KeptNames}
use Rattle.xapi_reduced.specs.declared.names.KeptNames.TheVariants.{OfVerb, OfActivity, OfGroup, OfAgent}

-- the names of the members that are kept, of each kind of value
abbrev pub kept_names : KeptNames → List (List ℕ)
kept_names OfVerb = codes "id" ∷ []
kept_names OfActivity = activity_names
kept_names OfGroup = group_names
kept_names OfAgent = agent_names

-- context activities of one name
abbrev pub direct_activities : List ℕ → Json → Json
direct_activities name j = with_each_item reduced_activity (in_array j)

abbrev pub direct_context_member : List ℕ → Json → Json
direct_context_member name j =
    if bytes_eq name (codes "instructor") || bytes_eq name (codes "team") then reduced_party j
    else (if bytes_eq name (codes "contextActivities") then with_each_member direct_activities j else j)

abbrev pub direct_context : Json → Json
direct_context j = with_each_member direct_context_member j

-- a member other than the object, of a statement or a SubStatement
abbrev pub direct_part : List ℕ → Json → Json
direct_part name j =
    if bytes_eq name (codes "actor") then reduced_party j else (if bytes_eq name (codes "verb") then reduced_verb j
    else (if bytes_eq name (codes "context") then direct_context j else j))

abbrev pub direct_nested_member : List ℕ → Json → Json
direct_nested_member name j = if bytes_eq name (codes "object") then reduced_plain_object j else direct_part name j

unfoldable pub direct_object : Json → Json
direct_object j = if is_nested j then with_each_member direct_nested_member j else reduced_plain_object j

-- a member that the store doesn't write itself
abbrev pub direct_member : List ℕ → Json → Json
direct_member name j = if bytes_eq name (codes "object") then direct_object j else direct_part name j

-- these members in their order, and others after them
abbrev pub direct_before : Members → Members → Members
direct_before no_members behind = behind
direct_before (member name j ms) behind =
    if is_one_of added_names name then direct_before ms behind
    else member name (direct_member name j) (direct_before ms behind)
