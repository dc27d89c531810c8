-- The twelve rules on a course, by their numbers: those that it breaks, and the least. What they ask is of cmi5 Quartz,
-- section 13; the JSON form is the store's own. A rule on a member is met if that is missing or if its holder is no
-- object.
use Rattle.std.specs.Prelude.{ℕ, nat_le, List, [], ◌∷◌, ◌++◌, Bool, true, false, ◌&&◌, ◌||◌, Option, codes}
use Rattle.std.specs.Prelude.{count_by, flat_map, is_some, is_none, if◌then◌else◌}
use Rattle.std.specs.List.{list_all}
use Rattle.std.specs.Option.{option_map_or, option_to_list}
use Rattle.lrs_json.specs.Json.{Json, null, boolean, number, string, array, object, no_elements, element}
use Rattle.lrs_json.specs.Json.{no_members, member}
use Rattle.lrs_json.specs.Names.{are_new}
use Rattle.lrs_names.specs.Iris.{is_iri}
use Rattle.lrs_names.specs.Languages.{is_language_map}
use Rattle.lrs_names.specs.Members.{is_string, is_string_that, is_word, has_only, has_member, has_member_that}
use Rattle.lrs_names.specs.Members.{faults_of_member, text_under}
use Rattle.lrs_names.specs.Rules.{unless, least}
use Rattle.cmi5_course.specs.Words.{move_on_of, method_of}
use Rattle.cmi5_course.specs.Units.{is_score}
use Rattle.lrs_names.specs.Members.{spelling_of}
use Rattle.cmi5_course.specs.Urls.{is_unit_url}
use Rattle.cmi5_course.specs.SpelledNodes.{SpelledNode, nodes_in}
use Rattle.cmi5_course.specs.declared.rules.TheConstants.{MOST_UNITS, DEEPEST}

-- ---- the members of courses, blocks and units

abbrev pub has_title : Json → Bool
has_title j = has_member (codes "id") j && has_member (codes "title") j

-- Rule 1: only `id`, `title`, `children` and `description`, of which the last may be missing.
unfoldable pub is_course : Json → Bool
is_course j =
    has_only (codes "id" ∷ codes "title" ∷ codes "description" ∷ codes "children" ∷ []) j && has_title j
    && has_member (codes "children") j

abbrev pub is_of_kind : List ℕ → Json → Bool
is_of_kind kind j = has_member_that (codes "kind") (is_word kind) j

-- a course's members, and `kind`
unfoldable pub is_block : Json → Bool
is_block j =
    is_of_kind (codes "block") j
    && has_only (codes "kind" ∷ codes "id" ∷ codes "title" ∷ codes "description" ∷ codes "children" ∷ []) j
    && has_title j && has_member (codes "children") j

abbrev pub unit_members : List (List ℕ)
unit_members =
    codes "kind" ∷ codes "id" ∷ codes "title" ∷ codes "description" ∷ codes "url" ∷ codes "moveOn"
    ∷ codes "masteryScore" ∷ codes "launchMethod" ∷ codes "launchParameters" ∷ codes "entitlementKey"
    ∷ codes "activityType" ∷ []

-- `kind`, `id`, `title` and `url`, and maybe seven others
unfoldable pub is_unit : Json → Bool
is_unit j =
    is_of_kind (codes "unit") j && has_only unit_members j && has_title j && has_member (codes "url") j

-- Rule 2 on a node: it has the members of a block or of a unit, by its `kind`.
abbrev pub is_node : Json → Bool
is_node j = is_block j || is_unit j

-- ---- the values of the members

-- rule 3: an IRI
abbrev pub id_faults : Json → List ℕ
id_faults j = unless (is_string_that is_iri j) 3

abbrev pub has_some_member : Json → Bool
has_some_member null = false
has_some_member (boolean b) = false
has_some_member (number s) = false
has_some_member (string s) = false
has_some_member (array js) = false
has_some_member (object no_members) = false
has_some_member (object (member name j ms)) = true

-- a language map that isn't empty
abbrev pub is_title : Json → Bool
is_title j = is_language_map j && has_some_member j

-- rule 4 on titles and descriptions
abbrev pub title_faults : Json → List ℕ
title_faults j = unless (is_title j) 4

abbrev pub has_some_item : Json → Bool
has_some_item null = false
has_some_item (boolean b) = false
has_some_item (number s) = false
has_some_item (string s) = false
has_some_item (array no_elements) = false
has_some_item (array (element j js)) = true
has_some_item (object ms) = false

-- rule 5: an array that isn't empty
abbrev pub children_faults : Json → List ℕ
children_faults j = unless (has_some_item j) 5

-- rule 7: one of the five words
abbrev pub move_on_faults : Json → List ℕ
move_on_faults j = unless (is_string_that (λ text. is_some (move_on_of text)) j) 7

-- rule 8: a number from 0 to 1
abbrev pub mastery_faults : Json → List ℕ
mastery_faults j = unless (option_map_or is_score (spelling_of j) false) 8

-- rule 9: one of the two words
abbrev pub method_faults : Json → List ℕ
method_faults j = unless (is_string_that (λ text. is_some (method_of text)) j) 9

-- rule 10: an address of a unit
abbrev pub url_faults : Json → List ℕ
url_faults j = unless (is_string_that is_unit_url j) 10

-- rule 11 on launch parameters and an entitlement key: a string
abbrev pub text_faults : Json → List ℕ
text_faults j = unless (is_string j) 11

-- rule 11 on an activity type: an IRI
abbrev pub type_faults : Json → List ℕ
type_faults j = unless (is_string_that is_iri j) 11

-- ---- a node by itself

-- rule 1 on the course, which no node holds, and rule 2 on each other node
abbrev pub form_faults : SpelledNode → List ℕ
form_faults node = if is_none node.parent then unless (is_course node.value) 1 else unless (is_node node.value) 2

-- what stands in a course, a block and a unit
unfoldable pub shared_faults : Json → List ℕ
shared_faults j =
    faults_of_member (codes "id") id_faults j ++ faults_of_member (codes "title") title_faults j
    ++ faults_of_member (codes "description") title_faults j ++ faults_of_member (codes "children") children_faults j

unfoldable pub launch_faults : Json → List ℕ
launch_faults j =
    faults_of_member (codes "moveOn") move_on_faults j ++ faults_of_member (codes "masteryScore") mastery_faults j
    ++ faults_of_member (codes "launchMethod") method_faults j ++ faults_of_member (codes "url") url_faults j

unfoldable pub content_faults : Json → List ℕ
content_faults j =
    faults_of_member (codes "launchParameters") text_faults j ++ faults_of_member (codes "entitlementKey") text_faults j
    ++ faults_of_member (codes "activityType") type_faults j

unfoldable pub node_faults : SpelledNode → List ℕ
node_faults node =
    form_faults node ++ shared_faults node.value ++ launch_faults node.value ++ content_faults node.value

-- ---- all nodes together

-- the id, if it is a string
abbrev pub ids_of : SpelledNode → List (List ℕ)
ids_of node = option_to_list (text_under (codes "id") node.value)

-- rule 6: the ids of the course, the blocks and the units are distinct
unfoldable pub have_distinct_ids : List SpelledNode → Bool
have_distinct_ids nodes = are_new [] (flat_map ids_of nodes)

abbrev pub is_unit_node : SpelledNode → Bool
is_unit_node node = is_of_kind (codes "unit") node.value

-- rule 12: no more units and no deeper nodes than the store takes
unfoldable pub is_within_limits : List SpelledNode → Bool
is_within_limits nodes =
    nat_le (count_by is_unit_node nodes) MOST_UNITS && list_all (λ node. nat_le node.depth DEEPEST) nodes

-- The rules that these nodes break, each as often as they break it.
unfoldable pub nodes_faults : List SpelledNode → List ℕ
nodes_faults nodes =
    flat_map node_faults nodes ++ unless (have_distinct_ids nodes) 6 ++ unless (is_within_limits nodes) 12

-- the rules that a value breaks as a course
unfoldable pub course_faults : Json → List ℕ
course_faults j = nodes_faults (nodes_in j)

-- the least rule that it breaks
unfoldable pub broken_rule : Json → Option ℕ
broken_rule j = least (course_faults j)
