-- Results, contexts and attachments, and the rules 24 to 32 on them (xAPI 1.0.3, part two, sections 2.4.5, 2.4.6 and
-- 2.4.11).
use Rattle.std.specs.Prelude.{ℕ, List, [], ◌∷◌, ◌++◌, Bool, ◌&&◌, codes}
use Rattle.lrs_json.specs.Json.{Json, null, boolean, number, string, array, object, Elements, no_elements, element}
use Rattle.lrs_names.specs.Rules.{unless}
use Rattle.lrs_names.specs.Iris.{iri_faults}
use Rattle.lrs_names.specs.Languages.{is_language_tag, language_map_faults}
use Rattle.lrs_agents.specs.Agents.{group_faults, agent_or_group_faults}
use Rattle.lrs_names.specs.Members.{is_string, is_string_that, has_only, has_member, has_member_that, if_member}
use Rattle.lrs_names.specs.Members.{faults_of_member}
use Rattle.xapi_values.specs.Shapes.{is_object, is_boolean, is_uuid, is_duration, extension_faults}
use Rattle.xapi_values.specs.Numbers.{is_count, is_score}
use Rattle.xapi_rules.specs.Objects.{activity_faults, reference_faults}

-- ---- results (section 2.4.5)

-- Rule 24: only the six members, `success` and `completion` truth values, `response` a string; its extensions are an
-- object.
unfoldable pub is_result : Json → Bool
is_result j =
    has_only (codes "score" ∷ codes "success" ∷ codes "completion" ∷ codes "response" ∷ codes "duration"
    ∷ codes "extensions" ∷ []) j
    && if_member (codes "success") is_boolean j && if_member (codes "completion") is_boolean j
    && if_member (codes "response") is_string j && if_member (codes "extensions") is_object j

abbrev pub score_faults : Json → List ℕ
score_faults j = unless (is_score j) 26

-- rule 25: a string that is a duration
abbrev pub duration_faults : Json → List ℕ
duration_faults j = unless (is_duration j) 25

unfoldable pub result_faults : Json → List ℕ
result_faults j =
    unless (is_result j) 24 ++ faults_of_member (codes "duration") duration_faults j
    ++ faults_of_member (codes "score") score_faults j ++ faults_of_member (codes "extensions") extension_faults j

-- ---- contexts (section 2.4.6)

abbrev pub context_members : List (List ℕ)
context_members =
    codes "registration" ∷ codes "instructor" ∷ codes "team" ∷ codes "contextActivities" ∷ codes "revision"
    ∷ codes "platform"
    ∷ codes "language" ∷ codes "statement" ∷ codes "extensions" ∷ []

-- Rule 27, but for the agents and the reference in it: only the nine members, `registration` a UUID, `revision` and
-- `platform` strings, `language` a tag; its extensions are an object.
unfoldable pub is_context : Json → Bool
is_context j =
    has_only context_members j && if_member (codes "registration") is_uuid j && if_member (codes "revision") is_string j
    && if_member (codes "platform") is_string j && if_member (codes "language") (is_string_that is_language_tag) j
    && if_member (codes "extensions") is_object j

-- rule 27 where a reference is asked for: an object
abbrev pub context_statement_faults : Json → List ℕ
context_statement_faults null = 27 ∷ []
context_statement_faults (boolean b) = 27 ∷ []
context_statement_faults (number s) = 27 ∷ []
context_statement_faults (string s) = 27 ∷ []
context_statement_faults (array js) = 27 ∷ []
context_statement_faults (object ms) = reference_faults (object ms)

-- rule 28 on an item: an object
abbrev pub context_activity_faults : Json → List ℕ
context_activity_faults null = 28 ∷ []
context_activity_faults (boolean b) = 28 ∷ []
context_activity_faults (number s) = 28 ∷ []
context_activity_faults (string s) = 28 ∷ []
context_activity_faults (array js) = 28 ∷ []
context_activity_faults (object ms) = activity_faults (object ms)

unfoldable pub faults_of_activities : Elements → List ℕ
faults_of_activities no_elements = []
faults_of_activities (element j js) = context_activity_faults j ++ faults_of_activities js

-- rule 28 on one of the four: an Activity, or an array of Activities
unfoldable pub activities_faults : Json → List ℕ
activities_faults null = 28 ∷ []
activities_faults (boolean b) = 28 ∷ []
activities_faults (number s) = 28 ∷ []
activities_faults (string s) = 28 ∷ []
activities_faults (array js) = faults_of_activities js
activities_faults (object ms) = activity_faults (object ms)

-- Rule 28 (section 2.4.6.2): an object with only the four.
unfoldable pub context_activities_faults : Json → List ℕ
context_activities_faults j =
    unless (has_only (codes "parent" ∷ codes "grouping" ∷ codes "category" ∷ codes "other" ∷ []) j) 28
    ++ faults_of_member (codes "parent") activities_faults j ++ faults_of_member (codes "grouping") activities_faults j
    ++ faults_of_member (codes "category") activities_faults j ++ faults_of_member (codes "other") activities_faults j

-- an Agent or a Group; a value of another kind breaks rule 27
abbrev pub instructor_faults : Json → List ℕ
instructor_faults j = agent_or_group_faults 27 j

unfoldable pub context_agent_faults : Json → List ℕ
context_agent_faults j =
    faults_of_member (codes "instructor") instructor_faults j ++ faults_of_member (codes "team") group_faults j

unfoldable pub context_faults : Json → List ℕ
context_faults j =
    unless (is_context j) 27 ++ context_agent_faults j
    ++ faults_of_member (codes "contextActivities") context_activities_faults j
    ++ faults_of_member (codes "statement") context_statement_faults j
    ++ faults_of_member (codes "extensions") extension_faults j

-- ---- attachments (section 2.4.11)

-- Rule 32 on one of them: only the seven members, all but `description` there, `contentType` and `sha2` strings, and
-- `length` a whole number that isn't negative.
unfoldable pub is_attachment : Json → Bool
is_attachment j =
    has_only (codes "usageType" ∷ codes "display" ∷ codes "description" ∷ codes "contentType" ∷ codes "length"
    ∷ codes "sha2" ∷ codes "fileUrl" ∷ []) j
    && has_member (codes "usageType") j && has_member (codes "display") j
    && has_member_that (codes "contentType") is_string j
    && has_member_that (codes "length") is_count j && has_member_that (codes "sha2") is_string j
    && has_member (codes "fileUrl") j

unfoldable pub attachment_faults : Json → List ℕ
attachment_faults j =
    unless (is_attachment j) 32 ++ faults_of_member (codes "usageType") iri_faults j
    ++ faults_of_member (codes "display") language_map_faults j
    ++ faults_of_member (codes "description") language_map_faults j
    ++ faults_of_member (codes "fileUrl") iri_faults j

unfoldable pub faults_of_attachments : Elements → List ℕ
faults_of_attachments no_elements = []
faults_of_attachments (element j js) = attachment_faults j ++ faults_of_attachments js

-- Rule 32: an array of them.
unfoldable pub attachments_faults : Json → List ℕ
attachments_faults null = 32 ∷ []
attachments_faults (boolean b) = 32 ∷ []
attachments_faults (number s) = 32 ∷ []
attachments_faults (string s) = 32 ∷ []
attachments_faults (array js) = faults_of_attachments js
attachments_faults (object ms) = 32 ∷ []
