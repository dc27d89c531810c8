-- What a unit is told in its document `LMS.LaunchData` (cmi5 Quartz, section 10.2).
use Rattle.std.specs.Prelude.{ℕ, List, [], ◌∷◌, ◌++◌, Option, Some, None, codes}
use Rattle.lrs_agent_texts.specs.Texts.{text_given}
use Rattle.lrs_json.specs.Json.{Json, array, number, object, string}
use Rattle.lrs_json.specs.View.{elements_of, members_of}
use Rattle.lrs_json.specs.Written.{written}
use Rattle.lrs_names.specs.Ids.{id_text}
use Rattle.cmi5_course.specs.Words.{mode_text, move_on_text}
use Rattle.cmi5_course.specs.declared.launch.Mode.{Mode}
use Rattle.cmi5_course.specs.declared.unit.Unit as units
use Rattle.cmi5_launch.specs.Activities.{activity_json}
use Rattle.cmi5_launch.specs.Names.{session_id}

-- the member of that name that holds the number so spelled, where there is one
abbrev pub number_given : List ℕ → Option (List ℕ) → List (List ℕ × Json)
number_given name None = []
number_given name (Some spelling) = (name, number spelling) ∷ []

-- {"courseStructure":TEXT}
abbrev pub entitlement_json : List ℕ → Json
entitlement_json text = object (members_of ((codes "courseStructure", string text) ∷ []))

abbrev pub entitlement_given : Option (List ℕ) → List (List ℕ × Json)
entitlement_given None = []
entitlement_given (Some text) = (codes "entitlementKey", entitlement_json text) ∷ []

-- an array of that Activity alone
abbrev pub only_activity : List ℕ → Json
only_activity id = array (elements_of (activity_json id ∷ []))

abbrev pub template_activities : List ℕ → Json
template_activities publisher = object (members_of ((codes "grouping", only_activity publisher) ∷ []))

abbrev pub template_extensions : List ℕ → Json
template_extensions session = object (members_of ((session_id, string (id_text session)) ∷ []))

-- What each statement of the session has in its context: the unit under its publisher's id, and the session.
abbrev pub context_template : List ℕ → List ℕ → Json
context_template publisher session =
    object (members_of ((codes "contextActivities", template_activities publisher)
    ∷ (codes "extensions", template_extensions session) ∷ []))

-- what stands where it is given
abbrev pub given_data : units.Unit → Option (List ℕ) → List (List ℕ × Json)
given_data unit return_url =
    text_given (codes "launchParameters") unit.parameters ++ number_given (codes "masteryScore") unit.mastery_text
    ++ text_given (codes "returnURL") return_url ++ entitlement_given unit.entitlement

abbrev pub launch_data_json : units.Unit → List ℕ → List ℕ → Mode → Option (List ℕ) → Json
launch_data_json unit publisher session mode return_url =
    object (members_of
    ((codes "contextTemplate", context_template publisher session) ∷ (codes "launchMode", string (mode_text mode))
    ∷ (codes "moveOn", string (move_on_text unit.move_on)) ∷ given_data unit return_url))

-- the bytes of the document
abbrev pub launch_data : units.Unit → List ℕ → List ℕ → Mode → Option (List ℕ) → List ℕ
launch_data unit publisher session mode return_url =
    written (launch_data_json unit publisher session mode return_url)
