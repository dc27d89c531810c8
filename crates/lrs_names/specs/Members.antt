-- What is asked of a value by its kind and by its members.
use Rattle.std.specs.Prelude.{ℕ, List, [], Bool, true, false, ◌&&◌, Option, Some, None, option_and_then, is_some}
use Rattle.std.specs.List.{list_any}
use Rattle.std.specs.Option.{option_map_or}
use Rattle.std.specs.Str.{bytes_eq}
use Rattle.lrs_json.specs.Json.{Json, null, boolean, number, string, array, object, Members}
use Rattle.lrs_json.specs.Json.{no_members, member}
use Rattle.lrs_json.specs.Find.{find}
use Rattle.lrs_json.specs.Parts.{text_in}

-- a string whose text passes
abbrev pub is_string_that : (List ℕ → Bool) → Json → Bool
is_string_that test null = false
is_string_that test (boolean b) = false
is_string_that test (number s) = false
is_string_that test (string text) = test text
is_string_that test (array js) = false
is_string_that test (object ms) = false

abbrev pub is_string : Json → Bool
is_string j = is_string_that (λ text. true) j

-- that very string
abbrev pub is_word : List ℕ → Json → Bool
is_word word j = is_string_that (λ text. bytes_eq text word) j

-- the member stands
abbrev pub has_member : List ℕ → Json → Bool
has_member name j = is_some (find name j)

-- the member stands and passes
abbrev pub has_member_that : List ℕ → (Json → Bool) → Json → Bool
has_member_that name test j = option_map_or test (find name j) false

-- the member passes, if it is there
abbrev pub if_member : List ℕ → (Json → Bool) → Json → Bool
if_member name test j = option_map_or test (find name j) true

-- the rules that the member breaks, if it is there
abbrev pub faults_of_member : List ℕ → (Json → List ℕ) → Json → List ℕ
faults_of_member name faults j = option_map_or faults (find name j) []

-- the text of the member, if it is a string
abbrev pub text_under : List ℕ → Json → Option (List ℕ)
text_under name j = option_and_then text_in (find name j)

-- how a number is spelled
abbrev pub spelling_of : Json → Option (List ℕ)
spelling_of null = None
spelling_of (boolean b) = None
spelling_of (number s) = Some s
spelling_of (string s) = None
spelling_of (array js) = None
spelling_of (object ms) = None

-- the spelling of the member, if it is a number
abbrev pub spelling_under : List ℕ → Json → Option (List ℕ)
spelling_under name j = option_and_then spelling_of (find name j)

abbrev pub is_one_of : List (List ℕ) → List ℕ → Bool
is_one_of names text = list_any (λ name. bytes_eq name text) names

abbrev pub are_named_by : List (List ℕ) → Members → Bool
are_named_by names no_members = true
are_named_by names (member k j ms) = is_one_of names k && are_named_by names ms

-- an object with only these members
abbrev pub has_only : List (List ℕ) → Json → Bool
has_only names null = false
has_only names (boolean b) = false
has_only names (number s) = false
has_only names (string s) = false
has_only names (array js) = false
has_only names (object ms) = are_named_by names ms
