-- The id of the course that a value is stands in the value itself.
use Rattle.std.proofs.Common.{◌≡◌, [], refl}
use Rattle.std.specs.Prelude.{codes, unwrap_or}
use Rattle.cmi5_course.specs.Courses.{first_id, node_of, nodes_of}
use Rattle.cmi5_course.specs.SpelledNodes.{nodes_in}
use Rattle.lrs_json.specs.Json.{Json, null, boolean, number, string, array, object}
use Rattle.lrs_names.specs.Members.{text_under}

pub id_spelled : (j : Json) → unwrap_or (text_under (codes "id") j) [] ≡ first_id (nodes_of j)
unfolding nodes_of nodes_in node_of
id_spelled null = refl
id_spelled (boolean b) = refl
id_spelled (number s) = refl
id_spelled (string s) = refl
id_spelled (array js) = refl
id_spelled (object ms) = refl
