-- The written form of a member of an object, without what follows it.
use Rattle.std.specs.Prelude.{ℕ, List, ◌∷◌, ◌++◌, [], Bool}
use Rattle.lrs_json.specs.Json.{Json}
use Rattle.lrs_json.specs.Written.{comma_if, quoted, written}

-- the name and its colon, and a comma before it if other members stand before
abbrev pub name_text : Bool → List ℕ → List ℕ
name_text later name = comma_if later ++ quoted name ++ 58 ∷ []

abbrev pub member_text : Bool → List ℕ → Json → List ℕ
member_text later name value = comma_if later ++ quoted name ++ 58 ∷ written value
