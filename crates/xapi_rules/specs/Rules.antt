-- The thirty-two rules on a statement (xAPI 1.0.3, part two, section 2), by their numbers: those that it breaks, and
-- the least.
use Rattle.std.specs.Prelude.{ℕ, List, [], ◌∷◌, ◌++◌, Bool, false, not, ◌&&◌, ◌||◌, ◌==◌, Option, codes}
use Rattle.lrs_json.specs.Json.{Json, null, boolean, number, string, array, object}
use Rattle.lrs_json.specs.Parts.{count_items}
use Rattle.lrs_names.specs.Rules.{unless, least}
use Rattle.lrs_names.specs.Iris.{iri_faults}
use Rattle.lrs_names.specs.Languages.{language_map_faults}
use Rattle.lrs_agents.specs.Agents.{agent_faults, group_faults, agent_or_group_faults}
use Rattle.lrs_names.specs.Members.{is_word, has_only, has_member, has_member_that, if_member, faults_of_member}
use Rattle.xapi_values.specs.Shapes.{is_object, is_uuid, is_timestamp, is_version}
use Rattle.xapi_values.specs.Kinds.{kind_of, is_activity_kind, same_kind}
use Rattle.xapi_rules.specs.Objects.{object_faults_with, nested_object_faults}
use Rattle.xapi_rules.specs.Contexts.{result_faults, context_faults, attachments_faults}
use Rattle.xapi_rules.specs.Nulls.{has_null}
use Rattle.xapi_values.specs.declared.kinds.Kind.{Kind}
use Rattle.xapi_values.specs.declared.kinds.Kind.TheVariants.{Unstated, Activity, Agent, Group, StatementRef}
use Rattle.xapi_values.specs.declared.kinds.Kind.TheVariants.{SubStatement, Other}
use Rattle.xapi_rules.specs.declared.nulls.NullRole.TheVariants.{Statement}

-- ---- what a statement and a SubStatement share

-- an Agent or a Group; a value of another kind breaks rule 15 (section 2.4.2)
abbrev pub actor_faults : Json → List ℕ
actor_faults j = agent_or_group_faults 15 j

-- Rule 16 (section 2.4.3): only `id`, which stands, and `display`.
unfoldable pub is_verb : Json → Bool
is_verb j = has_only (codes "id" ∷ codes "display" ∷ []) j && has_member (codes "id") j

unfoldable pub verb_faults : Json → List ℕ
verb_faults j =
    unless (is_verb j) 16 ++ faults_of_member (codes "id") iri_faults j
    ++ faults_of_member (codes "display") language_map_faults j

-- an Activity, by what it says that it is
abbrev pub is_about_activity : Json → Bool
is_about_activity j = is_activity_kind (kind_of j)

abbrev pub has_no_revision : Json → Bool
has_no_revision j = not (has_member (codes "revision") j) && not (has_member (codes "platform") j)

-- Rule 29 (section 2.4.6): `revision` and `platform` stand only if the object is an Activity.
unfoldable pub is_fit_revision : Json → Bool
is_fit_revision j =
    if_member (codes "context") has_no_revision j || has_member_that (codes "object") is_about_activity j

-- Rule 30 (sections 2.4.7 and 2.4.8): the times are timestamps.
unfoldable pub are_timestamps : Json → Bool
are_timestamps j = if_member (codes "timestamp") is_timestamp j && if_member (codes "stored") is_timestamp j

unfoldable pub action_faults : Json → List ℕ
action_faults j =
    faults_of_member (codes "actor") actor_faults j ++ faults_of_member (codes "verb") verb_faults j
    ++ faults_of_member (codes "result") result_faults j

unfoldable pub shared_faults : Json → List ℕ
shared_faults j =
    action_faults j ++ faults_of_member (codes "context") context_faults j
    ++ faults_of_member (codes "attachments") attachments_faults j ++ unless (is_fit_revision j) 29
    ++ unless (are_timestamps j) 30

-- ---- SubStatements (section 2.4.4.3)

abbrev pub has_action : Json → Bool
has_action j = has_member (codes "actor") j && has_member (codes "verb") j && has_member (codes "object") j

-- Rule 23: `actor`, `verb` and `object` stand, and only five others.
unfoldable pub is_substatement : Json → Bool
is_substatement j =
    has_only (codes "objectType" ∷ codes "actor" ∷ codes "verb" ∷ codes "object" ∷ codes "result" ∷ codes "context"
    ∷ codes "timestamp" ∷ codes "attachments" ∷ []) j
    && has_action j

unfoldable pub substatement_faults : Json → List ℕ
substatement_faults j =
    unless (is_substatement j) 23 ++ faults_of_member (codes "object") nested_object_faults j ++ shared_faults j

unfoldable pub object_faults : Json → List ℕ
object_faults j = object_faults_with substatement_faults j

-- ---- authorities (section 2.4.9)

abbrev pub is_pair : Json → Bool
is_pair null = false
is_pair (boolean b) = false
is_pair (number s) = false
is_pair (string s) = false
is_pair (array js) = count_items js == 2
is_pair (object ms) = false

abbrev pub has_no_identifier : Json → Bool
has_no_identifier j =
    not (has_member (codes "mbox") j) && not (has_member (codes "mbox_sha1sum") j)
    && not (has_member (codes "openid") j)
    && not (has_member (codes "account") j)

-- Rule 31 on a Group: no identifier, and two members.
abbrev pub is_authority_group : Json → Bool
is_authority_group j = has_no_identifier j && has_member_that (codes "member") is_pair j

abbrev pub authority_faults_of : Json → Kind → List ℕ
authority_faults_of j Unstated = agent_faults j
authority_faults_of j Activity = 31 ∷ []
authority_faults_of j Agent = agent_faults j
authority_faults_of j Group = unless (is_authority_group j) 31 ++ group_faults j
authority_faults_of j StatementRef = 31 ∷ []
authority_faults_of j SubStatement = 31 ∷ []
authority_faults_of j Other = 31 ∷ []

unfoldable pub authority_faults : Json → List ℕ
authority_faults j = authority_faults_of j (kind_of j)

-- ---- statements

abbrev pub statement_members : List (List ℕ)
statement_members =
    codes "id" ∷ codes "actor" ∷ codes "verb" ∷ codes "object" ∷ codes "result" ∷ codes "context" ∷ codes "timestamp"
    ∷ codes "stored" ∷ codes "authority" ∷ codes "version" ∷ codes "attachments" ∷ []

abbrev pub voided : List ℕ
voided = codes "http://adlnet.gov/expapi/verbs/voided"

abbrev pub is_voided_verb : Json → Bool
is_voided_verb j = has_member_that (codes "id") (is_word voided) j

-- A statement with the verb voided voids another (section 2.3.2).
unfoldable pub is_voiding : Json → Bool
is_voiding j = has_member_that (codes "verb") is_voided_verb j

abbrev pub is_about_reference : Json → Bool
is_about_reference j = is_object j && same_kind (kind_of j) StatementRef

-- Rule 22 on the statement: one that voids has a StatementRef as its object.
unfoldable pub voids_reference : Json → Bool
voids_reference j = not (is_voiding j) || if_member (codes "object") is_about_reference j

-- Rules 1 to 3: `actor`, `verb` and `object` stand, only eight others, and no null outside extensions.
unfoldable pub form_faults : Json → List ℕ
form_faults j =
    unless (has_action j) 1 ++ unless (has_only statement_members j) 2 ++ unless (not (has_null Statement j)) 3

-- Rules 4, 5 and 22 on the statement itself.
unfoldable pub own_faults : Json → List ℕ
own_faults j =
    unless (if_member (codes "id") is_uuid j) 4 ++ unless (if_member (codes "version") is_version j) 5
    ++ unless (voids_reference j) 22

-- The rules that a value breaks as a statement, each as often as it breaks it. What is no object breaks rule 1 alone.
unfoldable pub statement_faults : Json → List ℕ
statement_faults null = 1 ∷ []
statement_faults (boolean b) = 1 ∷ []
statement_faults (number s) = 1 ∷ []
statement_faults (string s) = 1 ∷ []
statement_faults (array js) = 1 ∷ []
statement_faults (object ms) =
    form_faults (object ms) ++ own_faults (object ms) ++ faults_of_member (codes "object") object_faults (object ms)
    ++ faults_of_member (codes "authority") authority_faults (object ms) ++ shared_faults (object ms)

-- the least rule that it breaks
unfoldable pub broken_rule : Json → Option ℕ
broken_rule j = least (statement_faults j)
