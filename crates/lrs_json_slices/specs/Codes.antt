-- The codes that a view as a value, as items of an array or as members of an object needs: those of a tree. Nothing is
-- stored so.
use Rattle.std.proofs.Common.{refl}
use Rattle.std.specs.Coded.{Coded, code_by}
use Rattle.lrs_json.specs.Json.{Json, null, boolean, number, string, array, object, Elements, Members, no_members}
use Rattle.lrs_json.specs.Parts.{items_of}
use Rattle.lrs_json.specs.Trees.{tree_of}
use Rattle.lrs_json.specs.View.{view}
use Rattle.lrs_json.specs.contracts.tree.Tree as json_tree
use Rattle.lrs_json.specs.declared.tree.Tree.{Tree}
use Rattle.lrs_json.proofs.SeenTrees.{seen_tree}

abbrev pub json_code : Coded Json
json_code = code_by Tree json_tree.the_row.coded tree_of view seen_tree

abbrev pub its_members : Json → Members
its_members null = no_members
its_members (boolean b) = no_members
its_members (number s) = no_members
its_members (string s) = no_members
its_members (array js) = no_members
its_members (object ms) = ms

abbrev pub elements_code : Coded Elements
elements_code = code_by Json json_code array items_of (λ _. refl)

abbrev pub members_code : Coded Members
members_code = code_by Json json_code object its_members (λ _. refl)
