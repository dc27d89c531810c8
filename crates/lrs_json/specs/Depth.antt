-- How deep a value nests.
use Rattle.std.specs.Prelude.{ℕ, suc, max}
use Rattle.lrs_json.specs.Json.{Json, null, boolean, number, string, array, object, Elements, no_elements, element}
use Rattle.lrs_json.specs.Json.{Members, no_members, member}

abbrev mutual
  pub depth : Json → ℕ
  depth null = 0
  depth (boolean b) = 0
  depth (number s) = 0
  depth (string s) = 0
  depth (array js) = suc (depth_of_elements js)
  depth (object ms) = suc (depth_of_members ms)

  pub depth_of_elements : Elements → ℕ
  depth_of_elements no_elements = 0
  depth_of_elements (element j js) = max (depth j) (depth_of_elements js)

  pub depth_of_members : Members → ℕ
  depth_of_members no_members = 0
  depth_of_members (member k j ms) = max (depth j) (depth_of_members ms)
