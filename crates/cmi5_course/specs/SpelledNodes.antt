-- The nodes that a value spells as a course, in the order of the text: a node before its children, and these in their
-- order. Nodes are numbered from 0 in that order, so the course itself is node 0.
use Rattle.std.specs.Prelude.{ℕ, ◌+◌, List, [], ◌∷◌, ◌++◌, length, Option, Some, None, codes, if◌then◌else◌}
use Rattle.std.specs.Str.{bytes_eq}
use Rattle.lrs_json.specs.Json.{Json, null, boolean, number, string, array, object, Elements, no_elements, element}
use Rattle.lrs_json.specs.Json.{Members, no_members, member}
use Rattle.lrs_json.specs.View.{view}
use Rattle.cmi5_course.specs.declared.spelled_nodes.SpelledNode.{SpelledNode as Found}

-- A value that stands as a node, the number of the node that holds it, and how deep it stands: the children of the
-- course have depth 1.
pub record SpelledNode : Type 0 where
  pub value : Json
  pub parent : Option ℕ
  pub depth : ℕ

abbrev pub spelled_node : Json → Option ℕ → ℕ → SpelledNode
spelled_node j parent depth = record { value = j; parent = parent; depth = depth }

abbrev mutual
  -- A value that stands as the node of that number, and all nodes below it. What is no object holds none.
  pub nodes_from : ℕ → Option ℕ → ℕ → Json → List SpelledNode
  nodes_from index parent depth null = spelled_node null parent depth ∷ []
  nodes_from index parent depth (boolean b) = spelled_node (boolean b) parent depth ∷ []
  nodes_from index parent depth (number s) = spelled_node (number s) parent depth ∷ []
  nodes_from index parent depth (string s) = spelled_node (string s) parent depth ∷ []
  nodes_from index parent depth (array js) = spelled_node (array js) parent depth ∷ []
  nodes_from index parent depth (object ms) =
      spelled_node (object ms) parent depth ∷ nodes_under (index + 1) index (depth + 1) ms

  -- The nodes that an object with these members holds, from the number `next` on: its children and those below them.
  -- The object is node `parent`.
  pub nodes_under : ℕ → ℕ → ℕ → Members → List SpelledNode
  nodes_under next parent depth no_members = []
  nodes_under next parent depth (member name j ms) =
      if bytes_eq name (codes "children") then nodes_of_children next parent depth j
      else nodes_under next parent depth ms

  -- what is no array holds none
  pub nodes_of_children : ℕ → ℕ → ℕ → Json → List SpelledNode
  nodes_of_children next parent depth null = []
  nodes_of_children next parent depth (boolean b) = []
  nodes_of_children next parent depth (number s) = []
  nodes_of_children next parent depth (string s) = []
  nodes_of_children next parent depth (array js) = nodes_of_items next parent depth js
  nodes_of_children next parent depth (object ms) = []

  -- each item begins behind all nodes of the ones before it
  pub nodes_of_items : ℕ → ℕ → ℕ → Elements → List SpelledNode
  nodes_of_items next parent depth no_elements = []
  nodes_of_items next parent depth (element j js) =
      let here = nodes_from next (Some parent) depth j in
      here ++ nodes_of_items (next + length here) parent depth js

-- the course itself, and all nodes below it
unfoldable pub nodes_in : Json → List SpelledNode
nodes_in j = nodes_from 0 None 0 j

-- what is seen of a node that the program found
abbrev pub seen : Found → SpelledNode
seen node = spelled_node (view node.value.now) node.parent node.depth
