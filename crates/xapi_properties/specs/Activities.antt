-- Which activities a statement speaks of (xAPI 1.0.3, part two, sections 2.4.4 and 2.4.6.2).
use Rattle.std.specs.Prelude.{ℕ, List, Bool, false, ◌&&◌, ◌||◌, codes}
use Rattle.lrs_json.specs.Json.{Json, null, boolean, number, string, array, object, Elements, no_elements, element}
use Rattle.lrs_names.specs.Members.{is_word, has_member_that}
use Rattle.xapi_rules.specs.XapiValuesNested.{is_nested}
use Rattle.xapi_rules.specs.Rules.{is_about_activity}

-- the Activity of that id
unfoldable pub is_activity_of : List ℕ → Json → Bool
is_activity_of id j = is_about_activity j && has_member_that (codes "id") (is_word id) j

abbrev pub any_activity_of : List ℕ → Elements → Bool
any_activity_of id no_elements = false
any_activity_of id (element j js) = is_activity_of id j || any_activity_of id js

-- one Activity, or an array of them, with that id
abbrev pub holds_activity : List ℕ → Json → Bool
holds_activity id null = false
holds_activity id (boolean b) = false
holds_activity id (number s) = false
holds_activity id (string s) = false
holds_activity id (array js) = any_activity_of id js
holds_activity id (object ms) = is_activity_of id (object ms)

-- one of the four members of context activities holds it
unfoldable pub holds_at : List ℕ → List ℕ → Json → Bool
holds_at name id j = has_member_that name (holds_activity id) j

unfoldable pub context_holds : List ℕ → List ℕ → Json → Bool
context_holds name id j = has_member_that (codes "contextActivities") (holds_at name id) j

-- The context activities of that name hold the Activity of that id (section 2.4.6.2).
unfoldable pub has_context_activity : List ℕ → List ℕ → Json → Bool
has_context_activity name id j = has_member_that (codes "context") (context_holds name id) j

unfoldable pub has_some_context_activity : List ℕ → Json → Bool
has_some_context_activity id j =
    has_context_activity (codes "parent") id j || has_context_activity (codes "grouping") id j
    || has_context_activity (codes "category") id j || has_context_activity (codes "other") id j

unfoldable pub is_about : List ℕ → Json → Bool
is_about id j = has_member_that (codes "object") (is_activity_of id) j

-- a SubStatement whose object or context activities are that Activity
unfoldable pub nested_has_activity : List ℕ → Json → Bool
nested_has_activity id j = is_nested j && (is_about id j || has_some_context_activity id j)

-- The object is that Activity; in the related roles, also the context activities, and those of a SubStatement.
unfoldable pub has_activity : List ℕ → Bool → Json → Bool
has_activity id related j =
    is_about id j
    || (related && (has_some_context_activity id j || has_member_that (codes "object") (nested_has_activity id) j))
