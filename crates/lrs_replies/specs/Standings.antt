-- How far the learner of a registration has come, as the desk tells it: the nodes of its edition in their order, and
-- which of them are satisfied.
use Rattle.std.specs.Prelude.{ℕ, List, [], ◌∷◌, ◌++◌, map, Bool, true, false, codes}
use Rattle.std.specs.Fmt.{decimal}
use Rattle.std.specs.List.{zip}
use Rattle.cmi5_course.specs.declared.course.NodeKind.{NodeKind}
use Rattle.cmi5_course.specs.declared.course.NodeKind.TheVariants.{Course, Block, Unit as UnitKind}
use Rattle.cmi5_course.specs.declared.course.Node.{Node}
use Rattle.lrs_json.specs.Json.{boolean, string}
use Rattle.lrs_json.specs.Written.{comma_if, written}
use Rattle.lrs_names.specs.Ids.{id_text}

-- what is told of a node
pub record SeenNode : Type 0 where
  pub id : List ℕ
  pub kind : NodeKind
  pub satisfied : Bool

abbrev pub seen_node : Node × Bool → SeenNode
seen_node pair = record { id = pair.0.id; kind = pair.0.kind; satisfied = pair.1 }

-- the nodes of a course with their verdicts, in order
abbrev pub nodes_of : List Node → List Bool → List SeenNode
nodes_of nodes verdicts = map seen_node (zip nodes verdicts)

abbrev pub kind_text : NodeKind → List ℕ
kind_text Course = codes "course"
kind_text Block = codes "block"
kind_text UnitKind = codes "unit"

-- {"id":ID,"kind":"K","satisfied":B}
abbrev pub node_text : SeenNode → List ℕ
node_text node =
    codes "{\"id\":" ++ written (string node.id) ++ codes ",\"kind\":\"" ++ kind_text node.kind
    ++ codes "\",\"satisfied\":" ++ written (boolean node.satisfied) ++ codes "}"

-- each node, and the closing bracket
abbrev pub nodes_text : Bool → List SeenNode → List ℕ
nodes_text later [] = codes "]"
nodes_text later (node ∷ nodes) = comma_if later ++ node_text node ++ nodes_text true nodes

-- the course itself is the first of its nodes
abbrev pub is_course_satisfied : List SeenNode → Bool
is_course_satisfied [] = false
is_course_satisfied (node ∷ nodes) = node.satisfied

-- {"registration":"R","course":ID,"edition":E,"satisfied":B,"nodes":[NODE,NODE]}
abbrev pub standing_body : List ℕ → List ℕ → ℕ → List SeenNode → List ℕ
standing_body registration course edition nodes =
    codes "{\"registration\":\"" ++ id_text registration ++ codes "\",\"course\":" ++ written (string course)
    ++ codes ",\"edition\":" ++ decimal edition
    ++ codes ",\"satisfied\":" ++ written (boolean (is_course_satisfied nodes)) ++ codes ",\"nodes\":["
    ++ nodes_text false nodes ++ codes "}"
