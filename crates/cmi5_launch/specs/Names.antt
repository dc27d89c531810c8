-- The names that cmi5 gives to verbs, categories, extensions, types of activities and a document (cmi5 Quartz, sections
-- 9.3 to 9.6 and 10.2).
use Rattle.std.specs.Prelude.{ℕ, List, codes}

-- ---- verbs (section 9.3)

abbrev pub launched : List ℕ
launched = codes "http://adlnet.gov/expapi/verbs/launched"

abbrev pub initialized : List ℕ
initialized = codes "http://adlnet.gov/expapi/verbs/initialized"

abbrev pub completed : List ℕ
completed = codes "http://adlnet.gov/expapi/verbs/completed"

abbrev pub passed : List ℕ
passed = codes "http://adlnet.gov/expapi/verbs/passed"

abbrev pub failed : List ℕ
failed = codes "http://adlnet.gov/expapi/verbs/failed"

abbrev pub terminated : List ℕ
terminated = codes "http://adlnet.gov/expapi/verbs/terminated"

abbrev pub abandoned : List ℕ
abandoned = codes "https://w3id.org/xapi/adl/verbs/abandoned"

abbrev pub waived : List ℕ
waived = codes "https://w3id.org/xapi/adl/verbs/waived"

abbrev pub satisfied : List ℕ
satisfied = codes "https://w3id.org/xapi/adl/verbs/satisfied"

-- ---- categories (section 9.6.2)

abbrev pub cmi5_category : List ℕ
cmi5_category = codes "https://w3id.org/xapi/cmi5/context/categories/cmi5"

abbrev pub move_on_category : List ℕ
move_on_category = codes "https://w3id.org/xapi/cmi5/context/categories/moveon"

-- ---- extensions of the context (section 9.6.3)

abbrev pub session_id : List ℕ
session_id = codes "https://w3id.org/xapi/cmi5/context/extensions/sessionid"

abbrev pub mastery_score : List ℕ
mastery_score = codes "https://w3id.org/xapi/cmi5/context/extensions/masteryscore"

abbrev pub launch_mode : List ℕ
launch_mode = codes "https://w3id.org/xapi/cmi5/context/extensions/launchmode"

abbrev pub launch_url : List ℕ
launch_url = codes "https://w3id.org/xapi/cmi5/context/extensions/launchurl"

abbrev pub move_on : List ℕ
move_on = codes "https://w3id.org/xapi/cmi5/context/extensions/moveon"

abbrev pub launch_parameters : List ℕ
launch_parameters = codes "https://w3id.org/xapi/cmi5/context/extensions/launchparameters"

-- ---- extensions of the result (section 9.5.5)

abbrev pub reason : List ℕ
reason = codes "https://w3id.org/xapi/cmi5/result/extensions/reason"

-- ---- types of activities (section 9.4)

abbrev pub block_type : List ℕ
block_type = codes "https://w3id.org/xapi/cmi5/activitytype/block"

abbrev pub course_type : List ℕ
course_type = codes "https://w3id.org/xapi/cmi5/activitytype/course"

-- ---- documents (section 10.2)

-- the state id of a unit's launch data
abbrev pub launch_data_state : List ℕ
launch_data_state = codes "LMS.LaunchData"
