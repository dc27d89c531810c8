-- How far a generator is.
use Rattle.std.specs.Prelude.{◌≡◌, ◌<◌, ◌+◌, ◌*◌, ℕ, List, map}
use Rattle.std.specs.List.{range_with_len}
use Rattle.lrs_json.specs.View.{view}
use Rattle.lrs_json.specs.declared.tree.Tree.{Tree}
use Rattle.lrs_generator.specs.Generated.{number_at, statement_json}
use Rattle.lrs_generator.specs.declared.generator.TheConstants.{BATCH}

-- What is seen of a generator: the seed, how many statements are made of it in all, and how many batches were taken.
pub record Progress : Type 0 where
  pub seed : ℕ
  pub count : ℕ
  pub taken : ℕ

-- before the first batch
abbrev pub untaken : ℕ → ℕ → Progress
untaken seed count = record { seed = seed; count = count; taken = 0 }

-- where a batch is left, the number is that of its first statement
pub record IsProgress (seed count taken number : ℕ) : Type 0 where
  pub ahead : taken * BATCH < count → number ≡ number_at seed (taken * BATCH)

-- These are the statements from an index on, so many, and the number is that of the one behind them.
pub record AreMade (seed first many : ℕ) (trees : List Tree) (number : ℕ) : Type 0 where
  pub made : map view trees ≡ map (statement_json seed) (range_with_len first many)
  pub behind : number ≡ number_at seed (first + many)
