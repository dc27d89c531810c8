-- What is readable at a limit, told of its parts: the names of an object are distinct, and each value is readable.
use Rattle.std.specs.Prelude.{ℕ, List, [], ◌∷◌, map, IsUtf8}
use Rattle.lrs_json.specs.Fits.{IsReadable}
use Rattle.lrs_json.specs.Json.{Elements, no_elements, element, Members, no_members, member}
use Rattle.lrs_json.specs.View.{member_view, members_of}
use Rattle.lrs_json.specs.declared.tree.Member.{Member}

abbrev pub names_of : Members → List (List ℕ)
names_of no_members = []
names_of (member k j ms) = k ∷ names_of ms

abbrev pub names_in : List Member → List (List ℕ)
names_in members = names_of (members_of (map member_view members))

-- each value is readable at the limit
abbrev pub AreReadable : ℕ → Elements → Type 0
AreReadable limit no_elements = Unit {0}
AreReadable limit (element j js) = IsReadable limit j × AreReadable limit js

-- each name is UTF-8, and each value is readable at the limit
abbrev pub HaveReadable : ℕ → Members → Type 0
HaveReadable limit no_members = Unit {0}
HaveReadable limit (member k j ms) = IsUtf8 k × IsReadable limit j × HaveReadable limit ms
