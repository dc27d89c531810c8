-- What is said of Groups whose members are laid side by side by rank.
use Rattle.std.specs.Prelude.{ℕ, zero, suc, List, [], ◌∷◌, ◌++◌, Bool, true, false, not, ◌&&◌}
use Rattle.lrs_json.specs.Json.{Json, null, boolean, number, string, array, object, Elements, no_elements, element}
use Rattle.lrs_json.specs.Json.{Members, no_members, member}
use Rattle.xapi_alike.specs.Steps.{has_member_named}

-- the indices below a count
abbrev pub indices_to : ℕ → List ℕ
indices_to zero = []
indices_to (suc n) = indices_to n ++ n ∷ []

-- no object in it repeats a name, and there is no array in it
abbrev mutual
  pub has_own_names : Json → Bool
  has_own_names null = true
  has_own_names (boolean b) = true
  has_own_names (number s) = true
  has_own_names (string s) = true
  has_own_names (array js) = false
  has_own_names (object ms) = are_own_names ms

  pub are_own_names : Members → Bool
  are_own_names no_members = true
  are_own_names (member k j ms) = not (has_member_named k ms) && (has_own_names j && are_own_names ms)

abbrev pub have_own_names : Elements → Bool
have_own_names no_elements = true
have_own_names (element j js) = has_own_names j && have_own_names js
