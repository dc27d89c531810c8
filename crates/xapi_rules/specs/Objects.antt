-- What a statement is about, and the rules 17 to 23 on it (xAPI 1.0.3, part two, sections 2.4.4 and 4.1).
use Rattle.std.specs.Prelude.{ℕ, List, [], ◌∷◌, ◌++◌, Bool, true, false, ◌&&◌, codes}
use Rattle.std.specs.Option.{option_to_list}
use Rattle.lrs_json.specs.Json.{Json, null, boolean, number, string, array, object, Elements, no_elements, element}
use Rattle.lrs_json.specs.Names.{are_new}
use Rattle.lrs_names.specs.Rules.{unless}
use Rattle.lrs_names.specs.Iris.{iri_faults}
use Rattle.lrs_names.specs.Languages.{language_map_faults}
use Rattle.lrs_agents.specs.Agents.{agent_faults, group_faults}
use Rattle.lrs_names.specs.Members.{is_string, is_string_that, is_one_of, is_word, has_only, has_member}
use Rattle.lrs_names.specs.Members.{has_member_that, if_member, faults_of_member, text_under}
use Rattle.xapi_values.specs.Shapes.{is_object, is_string_array, is_uuid, extension_faults}
use Rattle.xapi_values.specs.Kinds.{kind_of}
use Rattle.xapi_values.specs.declared.kinds.Kind.{Kind}
use Rattle.xapi_values.specs.declared.kinds.Kind.TheVariants.{Unstated, Activity, Agent, Group, StatementRef}
use Rattle.xapi_values.specs.declared.kinds.Kind.TheVariants.{SubStatement, Other}

-- ---- interaction activities (section 2.4.4.1)

-- only `id`, a string, and maybe a description
abbrev pub is_component : Json → Bool
is_component j = has_only (codes "id" ∷ codes "description" ∷ []) j && has_member_that (codes "id") is_string j

abbrev pub are_components : Elements → Bool
are_components no_elements = true
are_components (element j js) = is_component j && are_components js

abbrev pub is_component_list : Json → Bool
is_component_list null = false
is_component_list (boolean b) = false
is_component_list (number s) = false
is_component_list (string s) = false
is_component_list (array js) = are_components js
is_component_list (object ms) = false

-- The rule on the description of a component: it is a language map.
abbrev pub component_faults : Json → List ℕ
component_faults j = faults_of_member (codes "description") language_map_faults j

unfoldable pub faults_of_components : Elements → List ℕ
faults_of_components no_elements = []
faults_of_components (element j js) = component_faults j ++ faults_of_components js

-- the ids that the components have
abbrev pub ids_of : Elements → List (List ℕ)
ids_of no_elements = []
ids_of (element j js) = option_to_list (text_under (codes "id") j) ++ ids_of js

-- The rules that a list of components breaks: 14 in their descriptions, 20 in its form, 21 if an id comes again.
unfoldable pub component_list_faults : Json → List ℕ
component_list_faults null = 20 ∷ []
component_list_faults (boolean b) = 20 ∷ []
component_list_faults (number s) = 20 ∷ []
component_list_faults (string s) = 20 ∷ []
component_list_faults (array js) = unless (are_components js) 20 ++ unless (are_new [] (ids_of js)) 21
    ++ faults_of_components js
component_list_faults (object ms) = 20 ∷ []

-- one of the ten types of interaction
unfoldable pub is_interaction_type : List ℕ → Bool
is_interaction_type text =
    is_one_of (codes "true-false" ∷ codes "choice" ∷ codes "fill-in" ∷ codes "long-fill-in" ∷ codes "matching"
    ∷ codes "performance"
    ∷ codes "sequencing" ∷ codes "likert" ∷ codes "numeric" ∷ codes "other" ∷ []) text

-- Rule 20, but for the lists of components: the type is one of ten, and the pattern is an array of strings.
unfoldable pub is_interaction : Json → Bool
is_interaction j =
    if_member (codes "interactionType") (is_string_that is_interaction_type) j
    && if_member (codes "correctResponsesPattern") is_string_array j

unfoldable pub interaction_faults : Json → List ℕ
interaction_faults j =
    unless (is_interaction j) 20 ++ faults_of_member (codes "choices") component_list_faults j
    ++ faults_of_member (codes "scale") component_list_faults j
    ++ faults_of_member (codes "source") component_list_faults j
    ++ faults_of_member (codes "target") component_list_faults j
    ++ faults_of_member (codes "steps") component_list_faults j

-- ---- activities (section 2.4.4.1)

abbrev pub definition_members : List (List ℕ)
definition_members =
    codes "name" ∷ codes "description" ∷ codes "type" ∷ codes "moreInfo" ∷ codes "extensions" ∷ codes "interactionType"
    ∷ codes "correctResponsesPattern" ∷ codes "choices" ∷ codes "scale" ∷ codes "source" ∷ codes "target"
    ∷ codes "steps" ∷ []

-- Rule 19: an object with only the twelve members; its extensions are an object.
unfoldable pub is_definition : Json → Bool
is_definition j = has_only definition_members j && if_member (codes "extensions") is_object j

unfoldable pub definition_faults : Json → List ℕ
definition_faults j =
    unless (is_definition j) 19 ++ faults_of_member (codes "name") language_map_faults j
    ++ faults_of_member (codes "description") language_map_faults j ++ faults_of_member (codes "type") iri_faults j
    ++ faults_of_member (codes "moreInfo") iri_faults j ++ faults_of_member (codes "extensions") extension_faults j
    ++ interaction_faults j

-- Rule 18: only `objectType`, `id`, which stands, and `definition`.
unfoldable pub is_activity : Json → Bool
is_activity j =
    has_only (codes "objectType" ∷ codes "id" ∷ codes "definition" ∷ []) j
    && if_member (codes "objectType") (is_word (codes "Activity")) j && has_member (codes "id") j

unfoldable pub activity_faults : Json → List ℕ
activity_faults j =
    unless (is_activity j) 18 ++ faults_of_member (codes "id") iri_faults j
    ++ faults_of_member (codes "definition") definition_faults j

-- ---- references to statements (section 2.4.4.3)

-- Rule 22 on the reference: only `objectType` and `id`, a UUID.
unfoldable pub is_reference : Json → Bool
is_reference j =
    has_only (codes "objectType" ∷ codes "id" ∷ []) j
    && has_member_that (codes "objectType") (is_word (codes "StatementRef")) j
    && has_member_that (codes "id") is_uuid j

abbrev pub reference_faults : Json → List ℕ
reference_faults j = unless (is_reference j) 22

-- ---- objects

-- The rules that an object breaks of which the kind is stated, if a SubStatement breaks those.
abbrev pub faults_of_kind : List ℕ → Json → Kind → List ℕ
faults_of_kind nested j Unstated = activity_faults j
faults_of_kind nested j Activity = activity_faults j
faults_of_kind nested j Agent = agent_faults j
faults_of_kind nested j Group = group_faults j
faults_of_kind nested j StatementRef = reference_faults j
faults_of_kind nested j SubStatement = nested
faults_of_kind nested j Other = 17 ∷ []

-- Rule 17: an object of one of the five kinds.
abbrev pub object_faults_with : (Json → List ℕ) → Json → List ℕ
object_faults_with nested null = 17 ∷ []
object_faults_with nested (boolean b) = 17 ∷ []
object_faults_with nested (number s) = 17 ∷ []
object_faults_with nested (string s) = 17 ∷ []
object_faults_with nested (array js) = 17 ∷ []
object_faults_with nested (object ms) = faults_of_kind (nested (object ms)) (object ms) (kind_of (object ms))

-- Rule 23 on the object of a SubStatement: it is no SubStatement, and such a one is looked into no further.
abbrev pub nested_again : Json → List ℕ
nested_again j = 23 ∷ []

-- the rules that the object of a SubStatement breaks
unfoldable pub nested_object_faults : Json → List ℕ
nested_object_faults j = object_faults_with nested_again j
