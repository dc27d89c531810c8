-- The texts of new statements that were written before their entry.
use Rattle.std.specs.Prelude.{ℕ, List, [], ◌∷◌, take, Option, Some, None}
use Rattle.lrs_json.specs.declared.tree.Tree.{Tree}
use Rattle.lrs_reads.specs.LrsRefusalsPreparedTexts.{PreparedTexts}
use Rattle.xapi_statement.specs.Stored.{StoredStatement}

-- the first `n` texts that were written, if the entry brings statements
abbrev pub texts_for : Option PreparedTexts → ℕ → List StoredStatement → List Tree
texts_for None n ss = []
texts_for (Some written) n [] = []
texts_for (Some written) n (s ∷ ss) = take n written.texts
