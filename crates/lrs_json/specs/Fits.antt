-- The values that some text spells: what is written from them is read as them.
use Rattle.std.specs.Prelude.{◌≡◌, ◌≤◌, ℕ, List, [], ◌∷◌, false, IsTrue, IsUtf8}
use Rattle.lrs_decimal.specs.Numbers.{IsNumber}
use Rattle.lrs_decimal.specs.Range.{is_in_range}
use Rattle.lrs_json.specs.Json.{Json, null, boolean, number, string, array, object, Elements, no_elements, element}
use Rattle.lrs_json.specs.Json.{Members, no_members, member}
use Rattle.lrs_json.specs.Names.{is_among}
use Rattle.lrs_json.specs.Depth.{depth}

-- Each number in it is one and in range, each text is UTF-8, and each name of an object is none of those before it.
abbrev mutual
  pub Fits : Json → Type 0
  Fits null = Unit {0}
  Fits (boolean b) = Unit {0}
  Fits (number s) = IsNumber s × IsTrue (is_in_range s)
  Fits (string s) = IsUtf8 s
  Fits (array js) = FitElements js
  Fits (object ms) = FitMembers [] ms

  pub FitElements : Elements → Type 0
  FitElements no_elements = Unit {0}
  FitElements (element j js) = Fits j × FitElements js

  -- after members of these names
  pub FitMembers : List (List ℕ) → Members → Type 0
  FitMembers names no_members = Unit {0}
  FitMembers names (member k j ms) = IsUtf8 k × (is_among k names ≡ false) × Fits j × FitMembers (k ∷ names) ms

-- a value that `read_to` at that limit can give
abbrev pub IsReadable : ℕ → Json → Type 0
IsReadable limit j = Fits j × (depth j ≤ limit)
