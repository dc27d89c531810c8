-- What holds of each of several trees, as the items of one array.
use Rattle.std.proofs.Common.{◌≤◌, List, [], ◌∷◌, map, arith}
use Rattle.lrs_json.specs.Depth.{depth_of_elements}
use Rattle.lrs_json.specs.Fits.{FitElements}
use Rattle.lrs_json.specs.View.{elements_of, view}
use Rattle.lrs_json.specs.declared.tree.Tree.{Tree}
use Rattle.lrs_json.specs.declared.limits.TheConstants.{DEPTH}
use Rattle.lrs_fields.specs.Values.{AreLawfulTrees}

pub Fits-trees : (trees : List Tree) → AreLawfulTrees trees → FitElements (elements_of (map view trees))
Fits-trees [] lawful = tt
Fits-trees (tree ∷ trees) lawful = (lawful.0.0, Fits-trees trees lawful.1)

pub shallow_trees : (trees : List Tree) → AreLawfulTrees trees → depth_of_elements (elements_of (map view trees)) ≤ DEPTH
shallow_trees [] lawful = omega arith
shallow_trees (tree ∷ trees) lawful = omega (arith, lawful.0.1, shallow_trees trees lawful.1)
