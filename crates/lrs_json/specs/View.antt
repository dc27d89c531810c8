-- The JSON value that a `Tree` is.
use Rattle.std.specs.Prelude.{ℕ, List, [], ◌∷◌}
use Rattle.lrs_json.specs.Json.{Json, null, boolean, number, string, array, object, Elements, no_elements, element}
use Rattle.lrs_json.specs.Json.{Members, no_members, member}
use Rattle.lrs_json.specs.declared.tree.Tree.{Tree}
use Rattle.lrs_json.specs.declared.tree.Member.{Member}
use Rattle.lrs_json.specs.declared.tree.Tree.TheOpen.{Tree-F, Member-F}
use Rattle.lrs_json.specs.declared.tree.Tree.TheFolds.{fold-Tree, fold-Member}

abbrev pub elements_of : List Json → Elements
elements_of [] = no_elements
elements_of (j ∷ js) = element j (elements_of js)

-- a name with its value, seen as data
abbrev pub members_of : List (List ℕ × Json) → Members
members_of [] = no_members
members_of (m ∷ ms) = member m.0 m.1 (members_of ms)

abbrev pub tree_step : Tree-F Json (List ℕ × Json) → Json
tree_step Tree-F.Null = null
tree_step (Tree-F.Bool b) = boolean b
tree_step (Tree-F.Number s) = number s
tree_step (Tree-F.Words s) = string s
tree_step (Tree-F.List items) = array (elements_of items)
tree_step (Tree-F.Object items) = object (members_of items)

abbrev pub member_step : Member-F Json (List ℕ × Json) → List ℕ × Json
member_step m = (m.name, m.value)

abbrev pub view : Tree → Json
view = fold-Tree Json (List ℕ × Json) tree_step member_step

abbrev pub member_view : Member → List ℕ × Json
member_view = fold-Member Json (List ℕ × Json) tree_step member_step
