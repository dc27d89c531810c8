-- The parts of a value.
use Rattle.std.specs.Prelude.{ℕ, suc, List, Option, Some, None}
use Rattle.lrs_json.specs.Json.{Json, null, boolean, number, string, array, object, Elements, no_elements, element}
use Rattle.lrs_json.specs.Json.{Members, no_members, member}

-- the members of an object
abbrev pub members_in : Json → Option Members
members_in null = None
members_in (boolean b) = None
members_in (number s) = None
members_in (string s) = None
members_in (array js) = None
members_in (object ms) = Some ms

-- the items of an array
abbrev pub items_in : Json → Option Elements
items_in null = None
items_in (boolean b) = None
items_in (number s) = None
items_in (string s) = None
items_in (array js) = Some js
items_in (object ms) = None

-- the items of an array; nothing else has any
abbrev pub items_of : Json → Elements
items_of null = no_elements
items_of (boolean b) = no_elements
items_of (number s) = no_elements
items_of (string s) = no_elements
items_of (array js) = js
items_of (object ms) = no_elements

-- the text of a string
abbrev pub text_in : Json → Option (List ℕ)
text_in null = None
text_in (boolean b) = None
text_in (number s) = None
text_in (string s) = Some s
text_in (array js) = None
text_in (object ms) = None

-- how many there are
abbrev pub count_members : Members → ℕ
count_members no_members = 0
count_members (member k j ms) = suc (count_members ms)

abbrev pub count_items : Elements → ℕ
count_items no_elements = 0
count_items (element j js) = suc (count_items js)
