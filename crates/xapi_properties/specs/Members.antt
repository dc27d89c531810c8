-- The members of a statement (xAPI 1.0.3, part two, section 2.4).
use Rattle.std.specs.Prelude.{ℕ, List, [], Bool, Option, Some, None}
use Rattle.std.specs.Prelude.{option_and_then, unwrap_or, codes, if◌then◌else◌}
use Rattle.lrs_json.specs.Json.{Json, null, boolean, number, string, array, object}
use Rattle.lrs_json.specs.Find.{find}
use Rattle.lrs_json.specs.Parts.{text_in}
use Rattle.lrs_names.specs.Ids.{id_of}
use Rattle.lrs_names.specs.Members.{has_member, has_member_that, spelling_under, text_under}
use Rattle.xapi_rules.specs.Rules.{is_about_activity, is_about_reference}

-- a text that is a UUID, as an id
abbrev pub id_in : Json → Option (List ℕ)
id_in j = option_and_then id_of (text_in j)

-- the id that the statement gives itself
abbrev pub own_id : Json → Option (List ℕ)
own_id j = option_and_then id_in (find (codes "id") j)

-- the id of the verb
unfoldable pub verb_of : Json → List ℕ
verb_of j = unwrap_or (option_and_then (text_under (codes "id")) (find (codes "verb") j)) []

abbrev pub registration_in : Json → Option (List ℕ)
registration_in context = option_and_then id_in (find (codes "registration") context)

-- the registration of the context
unfoldable pub registration_of : Json → Option (List ℕ)
registration_of j = option_and_then registration_in (find (codes "context") j)

abbrev pub reference_in : Json → Option (List ℕ)
reference_in j = if is_about_reference j then own_id j else None

-- the id of the StatementRef that is the object
unfoldable pub target_of : Json → Option (List ℕ)
target_of j = option_and_then reference_in (find (codes "object") j)

abbrev pub activity_in : Json → Option (List ℕ)
activity_in j = if is_about_activity j then text_under (codes "id") j else None

-- the id of the Activity that is the object
unfoldable pub activity_of : Json → Option (List ℕ)
activity_of j = option_and_then activity_in (find (codes "object") j)

-- ---- results and extensions

-- the extension of the context
unfoldable pub extension_of : List ℕ → Json → Option Json
extension_of id j = option_and_then (find id) (option_and_then (find (codes "extensions")) (find (codes "context") j))

abbrev pub boolean_in : Json → Option Bool
boolean_in null = None
boolean_in (boolean b) = Some b
boolean_in (number s) = None
boolean_in (string s) = None
boolean_in (array js) = None
boolean_in (object ms) = None

abbrev pub member_boolean : List ℕ → Json → Option Bool
member_boolean name j = option_and_then boolean_in (find name j)

-- a truth value of the result
unfoldable pub result_boolean : List ℕ → Json → Option Bool
result_boolean name j = option_and_then (member_boolean name) (find (codes "result") j)

-- the spelling of the scaled score
unfoldable pub scaled_of : Json → Option (List ℕ)
scaled_of j =
    option_and_then (spelling_under (codes "scaled")) (option_and_then (find (codes "score")) (find (codes "result") j))

unfoldable pub has_duration : Json → Bool
has_duration j = has_member_that (codes "result") (has_member (codes "duration")) j
