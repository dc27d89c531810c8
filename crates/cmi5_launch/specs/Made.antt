-- The statements that the store makes of its own (cmi5 Quartz, section 9.3), before they are completed.
use Rattle.std.specs.Prelude.{ℕ, List, [], ◌∷◌, ◌++◌, map, min, Option, Some, None, true, codes}
use Rattle.lrs_agent_texts.specs.Texts.{agent_json, text_given}
use Rattle.lrs_agents.specs.declared.agents.Agent.{Agent}
use Rattle.lrs_json.specs.Json.{Json, array, boolean, object, string}
use Rattle.lrs_json.specs.View.{elements_of, members_of}
use Rattle.lrs_names.specs.Ids.{id_text}
use Rattle.lrs_time.specs.Duration.{seconds_text}
use Rattle.cmi5_course.specs.Words.{mode_text, move_on_text}
use Rattle.cmi5_course.specs.declared.course.NodeKind.{NodeKind}
use Rattle.cmi5_course.specs.declared.course.NodeKind.TheVariants.{Course, Block, Unit as UnitKind}
use Rattle.cmi5_course.specs.declared.launch.Mode.{Mode}
use Rattle.cmi5_course.specs.declared.unit.Unit as units
use Rattle.cmi5_launch.specs.declared.made.Made.{Made}
use Rattle.cmi5_launch.specs.declared.made.Made.TheVariants.{Launched, Abandoned, Waived, Satisfied}
use Rattle.lrs_time.specs.declared.seconds.TheConstants.{LONGEST_SPAN}
use Rattle.cmi5_course.specs.declared.reason.Reason.{Reason}
use Rattle.cmi5_launch.specs.Activities.{activity_json}
use Rattle.cmi5_launch.specs.Data.{number_given, only_activity}
use Rattle.cmi5_launch.specs.Names.{abandoned, block_type, cmi5_category, course_type, launch_mode, launch_parameters}
use Rattle.cmi5_launch.specs.Names.{launch_url, launched, mastery_score, move_on, move_on_category, reason, satisfied}
use Rattle.cmi5_launch.specs.Names.{session_id, waived}
use Rattle.cmi5_course.specs.Reasons.{reason_text}

-- ---- a statement by its parts

-- What is said, apart from its actor, its Activity, its registration and its session.
pub record Saying : Type 0 where
  -- the id of the verb, and its last word
  pub verb : List ℕ
  pub word : List ℕ
  -- the type of the Activity, where it is told
  pub activity_type : Option (List ℕ)
  -- the ids of the categories
  pub categories : List (List ℕ)
  -- the context's extensions behind the session's id
  pub extensions : List (List ℕ × Json)
  pub outcome : Option Json

abbrev pub in_english : List ℕ → Json
in_english word = object (members_of ((codes "en", string word) ∷ []))

-- {"id":V,"display":{"en":W}}
abbrev pub verb_json : List ℕ → List ℕ → Json
verb_json id word = object (members_of ((codes "id", string id) ∷ (codes "display", in_english word) ∷ []))

abbrev pub definition_json : List ℕ → Json
definition_json name = object (members_of ((codes "type", string name) ∷ []))

-- "definition":{"type":T}, where T is given
abbrev pub definition_given : Option (List ℕ) → List (List ℕ × Json)
definition_given None = []
definition_given (Some name) = (codes "definition", definition_json name) ∷ []

-- {"objectType":"Activity","id":ID}, and the definition behind
abbrev pub object_json : List ℕ → Option (List ℕ) → Json
object_json id activity_type = object (members_of
    ((codes "objectType", string (codes "Activity")) ∷ (codes "id", string id) ∷ definition_given activity_type))

abbrev pub categories_json : List (List ℕ) → Json
categories_json ids = array (elements_of (map activity_json ids))

-- the Activity of the publisher's id, and the categories
abbrev pub context_activities : List ℕ → List (List ℕ) → Json
context_activities publisher categories = object (members_of
    ((codes "grouping", only_activity publisher) ∷ (codes "category", categories_json categories) ∷ []))

abbrev pub extensions_json : List ℕ → List (List ℕ × Json) → Json
extensions_json session extensions = object (members_of ((session_id, string (id_text session)) ∷ extensions))

abbrev pub context_json : Saying → List ℕ → List ℕ → List ℕ → Json
context_json s publisher registration session = object (members_of
    ((codes "registration", string (id_text registration))
    ∷ (codes "contextActivities", context_activities publisher s.categories)
    ∷ (codes "extensions", extensions_json session s.extensions) ∷ []))

abbrev pub result_given : Option Json → List (List ℕ × Json)
result_given None = []
result_given (Some outcome) = (codes "result", outcome) ∷ []

-- of that actor, on the Activity of the first id, to which its publisher gave the second, in that registration and
-- session
abbrev pub saying_json : Saying → Agent → List ℕ → List ℕ → List ℕ → List ℕ → Json
saying_json s actor activity publisher registration session = object (members_of
    ((codes "actor", agent_json actor) ∷ (codes "verb", verb_json s.verb s.word)
    ∷ (codes "object", object_json activity s.activity_type)
    ∷ (codes "context", context_json s publisher registration session) ∷ result_given s.outcome))

-- ---- launched (section 9.3.1)

abbrev pub launched_extensions : Mode → units.Unit → List (List ℕ × Json)
launched_extensions mode unit =
    (launch_mode, string (mode_text mode)) ∷ (launch_url, string unit.url)
    ∷ (move_on, string (move_on_text unit.move_on))
    ∷ (number_given mastery_score unit.mastery_text ++ text_given launch_parameters unit.parameters)

abbrev pub said_launched : Mode → units.Unit → Saying
said_launched mode unit = record {
  verb = launched;
  word = codes "launched";
  activity_type = None;
  categories = cmi5_category ∷ [];
  extensions = launched_extensions mode unit;
  outcome = None;
}

-- ---- abandoned (section 9.3.6)

-- A span of milliseconds as a duration. One above LONGEST_SPAN is told as that.
abbrev pub span_text : ℕ → List ℕ
span_text ms = seconds_text (min ms LONGEST_SPAN)

abbrev pub abandoned_result : ℕ → Json
abandoned_result ms = object (members_of ((codes "duration", string (span_text ms)) ∷ []))

-- its last statement was stored so many milliseconds after its beginning
abbrev pub said_abandoned : ℕ → Saying
said_abandoned ms = record {
  verb = abandoned;
  word = codes "abandoned";
  activity_type = None;
  categories = cmi5_category ∷ [];
  extensions = [];
  outcome = Some (abandoned_result ms);
}

-- ---- waived (section 9.3.7)

abbrev pub reason_json : Reason → Json
reason_json why = object (members_of ((reason, string (reason_text why)) ∷ []))

abbrev pub waived_result : Reason → Json
waived_result why = object (members_of
    ((codes "success", boolean true) ∷ (codes "completion", boolean true) ∷ (codes "extensions", reason_json why)
    ∷ []))

abbrev pub said_waived : Reason → Saying
said_waived why = record {
  verb = waived;
  word = codes "waived";
  activity_type = None;
  categories = cmi5_category ∷ move_on_category ∷ [];
  extensions = [];
  outcome = Some (waived_result why);
}

-- ---- satisfied (section 9.3.9)

-- what cmi5 calls a course and a block (section 9.4); it has no name for a unit
abbrev pub type_of : NodeKind → Option (List ℕ)
type_of Course = Some course_type
type_of Block = Some block_type
type_of UnitKind = None

abbrev pub said_satisfied : NodeKind → Saying
said_satisfied kind = record {
  verb = satisfied;
  word = codes "satisfied";
  activity_type = type_of kind;
  categories = cmi5_category ∷ [];
  extensions = [];
  outcome = None;
}

-- ---- all of them

abbrev pub said : Made → Saying
said (Launched mode unit) = said_launched mode unit.now
said (Abandoned ms unit) = said_abandoned ms
said (Waived why unit) = said_waived why
said (Satisfied kind) = said_satisfied kind

abbrev pub made_json : Made → Agent → List ℕ → List ℕ → List ℕ → List ℕ → Json
made_json made actor activity publisher registration session =
    saying_json (said made) actor activity publisher registration session

abbrev pub launched_json : Mode → units.Unit → Agent → List ℕ → List ℕ → List ℕ → List ℕ → Json
launched_json mode unit actor activity publisher registration session =
    saying_json (said_launched mode unit) actor activity publisher registration session
