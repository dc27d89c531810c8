-- Two trees of one written form are one.
use Rattle.std.proofs.Common.{◌≡◌, [], sym, ◌∙◌}
use Rattle.std.proofs.lemmas.List.{append-nil}
use Rattle.lrs_json.specs.Spellable.{IsSpellable}
use Rattle.lrs_json.specs.View.{view}
use Rattle.lrs_json.specs.Written.{written_tree}
use Rattle.lrs_json.specs.declared.tree.Tree.{Tree}
use Rattle.lrs_json.proofs.Back.{same_tree}
use Rattle.lrs_json_slices.specs.LrsJsonReaderAlikeProofs.{alike}

pub one_tree : (t u : Tree) → IsSpellable (view t) → IsSpellable (view u) → written_tree t ≡ written_tree u → t ≡ u
one_tree t u f g e = same_tree t u (alike (view t) (view u) [] [] f g tt tt (append-nil (written_tree t) ∙ e ∙ sym (append-nil (written_tree u)))).0
