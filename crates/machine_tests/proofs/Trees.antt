-- Trees such as reading gives, one after the other.
use Rattle.std.proofs.Common.{List, [], ◌∷◌, ◌++◌}
use Rattle.lrs_json.specs.View.{view}
use Rattle.lrs_json.specs.declared.tree.Tree.{Tree}
use Rattle.lrs_record.specs.Entries.{AreLawfulTrees, IsLawfulTree}

pub lawful_more : (ts : List Tree) (t : Tree) → AreLawfulTrees ts → IsLawfulTree (view t) → AreLawfulTrees (ts ++ t ∷ [])
lawful_more [] t each own = (own, tt)
lawful_more (u ∷ us) t each own = (each.0, lawful_more us t each.1 own)
