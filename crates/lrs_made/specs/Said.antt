-- What is said in statements that have no ids yet.
use Rattle.std.specs.Prelude.{List, map, Option, option_map}
use Rattle.lrs_json.specs.Json.{Json}
use Rattle.lrs_json.specs.View.{view}
use Rattle.xapi_statement.specs.declared.statement.Statement.{Statement}

abbrev pub jsons_of : List Statement → List Json
jsons_of said = map (λ (s : Statement). view s.tree) said

-- of one, if it is there
abbrev pub json_given : Option Statement → Option Json
json_given said = option_map (λ (s : Statement). view s.tree) said
