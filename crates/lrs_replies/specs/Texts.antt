-- The texts that the store makes: tokens, and the bodies of its answers.
use Rattle.std.specs.Prelude.{ℕ, List, [], ◌∷◌, ◌++◌, map, Bool, true, false, codes}
use Rattle.std.specs.Fmt.{decimal}
use Rattle.cmi5_course.specs.Words.{method_text}
use Rattle.cmi5_course.specs.declared.unit.Method.{Method}
use Rattle.lrs_json.specs.Json.{array, string}
use Rattle.lrs_json.specs.View.{elements_of}
use Rattle.lrs_json.specs.Written.{comma_if, written}
use Rattle.lrs_names.specs.Ids.{id_text}
use Rattle.lrs_record.specs.Entries.{word_text}

-- 32 lower-case hexadecimal digits of the secret, `-`, and the decimal index of its entry
abbrev pub token_text : ℕ → ℕ → List ℕ
token_text index secret = word_text secret ++ codes "-" ++ decimal index

-- {"caller":k,"token":"T"}
abbrev pub provider_body : ℕ → List ℕ → List ℕ
provider_body k token = codes "{\"caller\":" ++ decimal k ++ codes ",\"token\":\"" ++ token ++ codes "\"}"

-- the versions of xAPI that are spoken
abbrev pub versions_body : List ℕ
versions_body = codes "{\"version\":[\"1.0.3\"]}"

-- each id as a string, and the closing bracket
abbrev pub ids_text : Bool → List (List ℕ) → List ℕ
ids_text later [] = codes "]"
ids_text later (id ∷ ids) = comma_if later ++ codes "\"" ++ id_text id ++ codes "\"" ++ ids_text true ids

-- ["ID","ID"]
abbrev pub ids_body : List (List ℕ) → List ℕ
ids_body ids = codes "[" ++ ids_text false ids

-- the state ids of documents, each as a string of JSON
abbrev pub states_body : List (List ℕ) → List ℕ
states_body states = written (array (elements_of (map string states)))

-- ---- the desk

-- {"course":"ID","edition":E}
abbrev pub course_body : List ℕ → ℕ → List ℕ
course_body id edition =
    codes "{\"course\":" ++ written (string id) ++ codes ",\"edition\":" ++ decimal edition ++ codes "}"

-- {"registration":"R"}
abbrev pub registration_body : List ℕ → List ℕ
registration_body id = codes "{\"registration\":\"" ++ id_text id ++ codes "\"}"

-- {"abandoned":["S","S"]}: the sessions that a sweep abandoned
abbrev pub swept_body : List (List ℕ) → List ℕ
swept_body sessions = codes "{\"abandoned\":" ++ ids_body sessions ++ codes "}"

-- how a unit wants to be shown
abbrev pub opened_in : Method → List ℕ
opened_in method = codes "\",\"launchMethod\":\"" ++ method_text method

-- the address to go to
abbrev pub opened_at : List ℕ → List ℕ
opened_at url = codes "\",\"url\":" ++ written (string url) ++ codes "}"

-- both, behind the text of an id
abbrev pub opening_text : Method → List ℕ → List ℕ
opening_text method url = opened_in method ++ opened_at url

-- {"session":"S","launchMethod":"M","url":"U"}
abbrev pub launch_body : List ℕ → Method → List ℕ → List ℕ
launch_body session method url = codes "{\"session\":\"" ++ id_text session ++ opening_text method url

-- {"auth-token":"T"}: the token of a session (cmi5 Quartz, section 8.2.2)
abbrev pub session_token_body : List ℕ → List ℕ
session_token_body token = codes "{\"auth-token\":\"" ++ token ++ codes "\"}"

-- why no token is given away (cmi5 Quartz, section 8.2.3): the key was used, or its session is closed
abbrev pub key_used_body : List ℕ
key_used_body = codes "{\"error-code\":\"1\",\"error-text\":\"The fetch key was used.\"}"

abbrev pub session_closed_body : List ℕ
session_closed_body = codes "{\"error-code\":\"2\",\"error-text\":\"The session is closed.\"}"
