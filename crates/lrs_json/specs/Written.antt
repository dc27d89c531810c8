-- The written form: no white space, members in their order, numbers in their spelling.
use Rattle.std.specs.Prelude.{◌≡◌, take, length, ℕ, ◌+◌, ◌/◌, ◌%◌, ◌==◌, ◌||◌, not, nat_lt, List, [], ◌∷◌, ◌++◌, map}
use Rattle.std.specs.Prelude.{Bool, true, false, if◌then◌else◌, codes}
use Rattle.std.specs.List.{flat_map}
use Rattle.lrs_json.specs.Json.{Json, null, boolean, number, string, array, object, Elements, no_elements, element}
use Rattle.lrs_json.specs.Json.{Members, no_members, member}
use Rattle.lrs_json.specs.View.{view, member_view, elements_of, members_of}
use Rattle.lrs_json.specs.declared.tree.Tree.{Tree}
use Rattle.lrs_json.specs.declared.tree.Member.{Member}

-- new begins with old
abbrev pub Extends : List ℕ → List ℕ → Type 0
Extends old new = take (length old) new ≡ old

-- a lower-case hexadecimal digit
abbrev pub hex_digit_of : ℕ → ℕ
hex_digit_of n = if nat_lt n 10 then 48 + n else 87 + n

-- a byte of a string that stands for itself
abbrev pub is_plain : ℕ → Bool
is_plain b = not (nat_lt b 32 || b == 34 || b == 92)

-- a byte of a text as it stands in a written string
unfoldable pub escaped : ℕ → List ℕ
escaped b =
    if b == 34 then codes "\\\""
    else (if b == 92 then codes "\\\\"
    else (if b == 8 then codes "\\b" else (if b == 9 then codes "\\t" else (if b == 10 then codes "\\n"
    else (if b == 12 then codes "\\f"
    else (if b == 13 then codes "\\r"
    else (if nat_lt b 32 then codes "\\u00" ++ hex_digit_of (b / 16) ∷ hex_digit_of (b % 16) ∷ [] else b ∷ [])))))))

abbrev pub quoted : List ℕ → List ℕ
quoted text = 34 ∷ (flat_map escaped text ++ 34 ∷ [])

-- a comma, if something stands before
abbrev pub comma_if : Bool → List ℕ
comma_if later = if later then 44 ∷ [] else []

abbrev mutual
  pub written : Json → List ℕ
  written null = codes "null"
  written (boolean b) = if b then codes "true" else codes "false"
  written (number s) = s
  written (string s) = quoted s
  written (array js) = 91 ∷ elements_text false js
  written (object ms) = 123 ∷ members_text false ms

  -- with the closing bracket
  pub elements_text : Bool → Elements → List ℕ
  elements_text later no_elements = 93 ∷ []
  elements_text later (element j js) = comma_if later ++ written j ++ elements_text true js

  pub members_text : Bool → Members → List ℕ
  members_text later no_members = 125 ∷ []
  members_text later (member k j ms) = comma_if later ++ quoted k ++ 58 ∷ written j ++ members_text true ms

abbrev pub written_tree : Tree → List ℕ
written_tree t = written (view t)

abbrev pub list_text : Bool → List Tree → List ℕ
list_text later ts = elements_text later (elements_of (map view ts))

abbrev pub object_text : Bool → List Member → List ℕ
object_text later ms = members_text later (members_of (map member_view ms))

abbrev pub text_of_member : Member → List ℕ
text_of_member m = let seen = member_view m in quoted seen.0 ++ 58 ∷ written seen.1
