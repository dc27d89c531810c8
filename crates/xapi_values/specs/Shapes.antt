-- What is asked of a value by its kind, beyond the words of names.
use Rattle.std.specs.Prelude.{◌≡◌, ℕ, ℤ, List, [], nat_eq, Bool, true, false, ◌&&◌, is_some, is_ok, codes}
use Rattle.std.specs.List.{starts_with}
use Rattle.lrs_json.specs.Json.{Json, null, boolean, number, string, array, object, Elements, no_elements, element}
use Rattle.lrs_json.specs.Json.{Members, no_members, member}
use Rattle.lrs_names.specs.Ids.{id_of}
use Rattle.lrs_names.specs.Iris.{is_iri}
use Rattle.lrs_names.specs.Members.{is_string_that}
use Rattle.lrs_names.specs.Rules.{unless}
use Rattle.lrs_time.specs.Duration.{Span, IsDurationOf}
use Rattle.lrs_time.specs.Reading.{timestamp_at, duration_at}
use Rattle.lrs_time.specs.Timestamp.{IsTimestampOf}

abbrev pub is_object : Json → Bool
is_object null = false
is_object (boolean b) = false
is_object (number s) = false
is_object (string s) = false
is_object (array js) = false
is_object (object ms) = true

abbrev pub is_boolean : Json → Bool
is_boolean null = false
is_boolean (boolean b) = true
is_boolean (number s) = false
is_boolean (string s) = false
is_boolean (array js) = false
is_boolean (object ms) = false

abbrev pub are_strings : Elements → Bool
are_strings no_elements = true
are_strings (element j js) = is_string_that (λ text. true) j && are_strings js

-- an array of strings
abbrev pub is_string_array : Json → Bool
is_string_array null = false
is_string_array (boolean b) = false
is_string_array (number s) = false
is_string_array (string s) = false
is_string_array (array js) = are_strings js
is_string_array (object ms) = false

-- a UUID in its form of 36 characters (RFC 4122, section 3)
abbrev pub is_uuid : Json → Bool
is_uuid j = is_string_that (λ text. is_some (id_of text)) j

-- A timestamp (section 4.5), as it is written.
abbrev pub IsTimestamp : Json → Type 0
IsTimestamp j = (text : List ℕ) × (instant : ℤ) × (j ≡ string text) × IsTimestampOf text instant

-- The same as a test: the clause `written` of the function `is_timestamp` proves that they agree.
abbrev pub is_timestamp : Json → Bool
is_timestamp j = is_string_that (λ text. is_ok (timestamp_at text)) j

-- A duration (section 4.6), as it is written.
abbrev pub IsDuration : Json → Type 0
IsDuration j = (text : List ℕ) × (span : Span) × (j ≡ string text) × IsDurationOf text span

-- The same as a test: the clause `written` of the function `is_duration` proves that they agree.
abbrev pub is_duration : Json → Bool
is_duration j = is_string_that (λ text. is_some (duration_at text)) j

-- a version that this store takes (section 2.4.10)
abbrev pub is_version : Json → Bool
is_version j = is_string_that (λ text. starts_with nat_eq text (codes "1.0.")) j

abbrev pub are_iris : Members → Bool
are_iris no_members = true
are_iris (member name j ms) = is_iri name && are_iris ms

-- The rules that the names of extensions break: each is an IRI (section 4.1). What they hold is free.
abbrev pub extension_faults : Json → List ℕ
extension_faults null = []
extension_faults (boolean b) = []
extension_faults (number s) = []
extension_faults (string s) = []
extension_faults (array js) = []
extension_faults (object ms) = unless (are_iris ms) 6
