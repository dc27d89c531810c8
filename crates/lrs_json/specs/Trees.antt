-- The tree that a value is seen of.
use Rattle.std.specs.Prelude.{List, [], ◌∷◌}
use Rattle.lrs_json.specs.Json.{Json, null, boolean, number, string, array, object, Elements, no_elements, element}
use Rattle.lrs_json.specs.Json.{Members, no_members, member}
use Rattle.lrs_json.specs.declared.tree.Tree.{Tree, Null, Bool, Number, Words, List as Many, Object}
use Rattle.lrs_json.specs.declared.tree.Member.{Member}
use Rattle.lrs_json.specs.declared.tree.Tree.TheViews.{roll-Member}

abbrev mutual
  pub tree_of : Json → Tree
  tree_of null = Null
  tree_of (boolean b) = Bool b
  tree_of (number s) = Number s
  tree_of (string s) = Words s
  tree_of (array js) = Many (trees_of js)
  tree_of (object ms) = Object (named_of ms)

  pub trees_of : Elements → List Tree
  trees_of no_elements = []
  trees_of (element j js) = tree_of j ∷ trees_of js

  pub named_of : Members → List Member
  named_of no_members = []
  named_of (member k j ms) = roll-Member (record { name = k; value = tree_of j }) ∷ named_of ms
