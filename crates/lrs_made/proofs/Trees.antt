-- A tree is told by the value that is seen of it.
use Rattle.std.proofs.Common.{◌≡◌, sym, ap, ◌∙◌}
use Rattle.lrs_json.proofs.Back.{back}
use Rattle.lrs_json.specs.Json.{Json}
use Rattle.lrs_json.specs.Trees.{tree_of}
use Rattle.lrs_json.specs.View.{view}
use Rattle.lrs_json.specs.declared.tree.Tree.{Tree}

pub tree_seen : (t : Tree) (j : Json) → view t ≡ j → t ≡ tree_of j
tree_seen t j is = sym (back t) ∙ ap tree_of is
