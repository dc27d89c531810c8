-- The course that a value is which breaks no rule: its nodes in the order of the text.
use Rattle.std.specs.Prelude.{◌≡◌, ℕ, ◌<◌, ◌^◌, List, [], ◌∷◌, map, length, Bool, true, false}
use Rattle.std.specs.Prelude.{◌&&◌, Option, Some, None, option_map, option_and_then, codes}
use Rattle.std.specs.Prelude.{Ok, IfSome}
use Rattle.std.specs.Prelude.{position, slice_get, unwrap_or, is_none, if◌then◌else◌}
use Rattle.std.specs.Str.{bytes_eq}
use Rattle.url.specs.Parser.{parse_url}
use Rattle.url.specs.Parts.{Parts}
use Rattle.lrs_json_equal.specs.SameValue.{same}
use Rattle.lrs_json.specs.Json.{Json}
use Rattle.lrs_json.specs.Fits.{Fits}
use Rattle.lrs_json.specs.View.{view}
use Rattle.lrs_json.specs.declared.tree.Tree.{Tree}
use Rattle.lrs_names.specs.Members.{text_under}
use Rattle.cmi5_course.specs.Units.{AssignableUnit, unit_of}
use Rattle.lrs_decimal.specs.Range.{is_decimal}
use Rattle.cmi5_course.specs.SpelledNodes.{SpelledNode, nodes_in}
use Rattle.cmi5_course.specs.Rules.{is_unit_node, broken_rule}
use Rattle.cmi5_course.specs.declared.refused.CourseRefused.{CourseRefused}
use Rattle.cmi5_course.specs.declared.refused.CourseRefused.TheVariants.{Broken}
use Rattle.cmi5_course.specs.declared.course.NodeKind.{NodeKind}
use Rattle.cmi5_course.specs.declared.course.NodeKind.TheVariants.{Course as CourseKind, Block, Unit as UnitKind}
use Rattle.cmi5_course.specs.declared.course.Node.{Node}

-- what a node is, by whether another holds it and by its member `kind`
abbrev pub kind_of : SpelledNode → NodeKind
kind_of node = if is_none node.parent then CourseKind else (if is_unit_node node then UnitKind else Block)

abbrev pub is_unit_kind : NodeKind → Bool
is_unit_kind CourseKind = false
is_unit_kind Block = false
is_unit_kind UnitKind = true

-- what a unit has beside
abbrev pub unit_if : NodeKind → Json → Option AssignableUnit
unit_if kind j = if is_unit_kind kind then Some (unit_of j) else None

unfoldable pub node_of : SpelledNode → Node
node_of node = record {
  id = unwrap_or (text_under (codes "id") node.value) [];
  kind = kind_of node;
  parent = node.parent;
  unit = unit_if (kind_of node) node.value;
}

unfoldable pub nodes_of : Json → List Node
nodes_of j = map node_of (nodes_in j)

-- What is seen of a course: the tree that was read, and its nodes.
pub record Course : Type 0 where
  pub tree : Tree
  pub nodes : List Node

-- The nodes are those of the tree, which breaks no rule and is one that some text spells. They are few enough that
-- 32 bits number them.
pub record IsUnbroken (tree : Tree) (nodes : List Node) : Type 0 where
  pub read : nodes ≡ nodes_of (view tree)
  pub unbroken : broken_rule (view tree) ≡ None
  pub fits : Fits (view tree)
  pub few : length nodes < 2 ^ 32

abbrev pub course_of : Tree → Course
course_of t = record { tree = t; nodes = nodes_of (view t) }

-- why a value is no course, if it is none
unfoldable pub refusal : Json → Option CourseRefused
refusal j = option_map Broken (broken_rule j)

-- the id of the first node, which is the course itself
abbrev pub first_id : List Node → List ℕ
first_id [] = []
first_id (node ∷ nodes) = node.id

abbrev pub course_key : Course → List ℕ
course_key course = first_id course.nodes

-- both trees have the same value
abbrev pub same_course : Course → Course → Bool
same_course course other = same (view course.tree) (view other.tree)

abbrev pub is_unit_of : List ℕ → Node → Bool
is_unit_of id node = is_unit_kind node.kind && bytes_eq node.id id

-- the number of the unit of that id
abbrev pub index_of_unit : List ℕ → Course → Option ℕ
index_of_unit id course = position (is_unit_of id) course.nodes

-- the node of that number
abbrev pub node_at : ℕ → Course → Option Node
node_at index course = slice_get course.nodes index

-- the unit that the node of that number is
abbrev pub unit_at : ℕ → Course → Option AssignableUnit
unit_at index course = option_and_then (λ node. node.unit) (node_at index course)

-- What is known of a unit of a course that breaks no rule: the URL Standard reads its address, and its mastery score is
-- the spelling of a number in range.
pub record IsSoundUnit (unit : AssignableUnit) : Type 0 where
  pub address : (url : Parts) × (parse_url None unit.url ≡ Ok url)
  pub decimal : IfSome unit.mastery_text (λ spelling. is_decimal spelling ≡ true)
