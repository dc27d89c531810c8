-- Statements with the ids that were found for them.
use Rattle.std.specs.Prelude.{ℕ, List, [], ◌∷◌}
use Rattle.lrs_json.specs.declared.tree.Tree.{Tree}
use Rattle.xapi_index.specs.Batches.{WithId}

-- statements with their ids, one by one
abbrev pub with_these_ids : List (List ℕ) → List Tree → List WithId
with_these_ids [] trees = []
with_these_ids (id ∷ ids) [] = []
with_these_ids (id ∷ ids) (t ∷ ts) = record { id = id; tree = t } ∷ with_these_ids ids ts
