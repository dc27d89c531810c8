-- The one text of the one statement.
use Rattle.std.proofs.Common.{◌≡◌, List, [], ◌∷◌, Option, Some, None, slice_get, ap, ◌∙◌}
use Rattle.lrs_json.specs.declared.tree.Tree.{Tree}

pub has_one : (ts : List Tree) (s : Tree) → ts ≡ s ∷ [] → ◌≡◌ {A = Option Tree} None (slice_get ts 0) → ⊥
has_one ts s one none =
    let bad : ◌≡◌ {A = Option Tree} None (Some s) = none ∙ ap (λ (us : List Tree). slice_get us 0) one in
    cc bad

pub the_one : (ts : List Tree) (s t : Tree) → ts ≡ s ∷ [] → ◌≡◌ {A = Option Tree} (Some t) (slice_get ts 0) → t ≡ s
the_one ts s t one first =
    let same : ◌≡◌ {A = Option Tree} (Some t) (Some s) = first ∙ ap (λ (us : List Tree). slice_get us 0) one in
    cc same
