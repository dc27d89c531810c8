-- Lists of trees, as data.
use Rattle.std.proofs.Common.{◌≡◌, suc, List, [], ◌∷◌, map, length, refl, ap}
use Rattle.lrs_json.specs.Parts.{count_items}
use Rattle.lrs_json.specs.View.{view, elements_of}
use Rattle.lrs_json.specs.declared.tree.Tree.{Tree}

pub length_elements : (ts : List Tree) → count_items (elements_of (map view ts)) ≡ length ts
length_elements [] = refl
length_elements (t ∷ ts) = ap suc (length_elements ts)
