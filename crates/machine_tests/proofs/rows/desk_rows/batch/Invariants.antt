use Rattle.lrs_record.specs.Entries.{AreLawfulTrees}
use Rattle.machine_tests.proofs.rows.desk_rows.batch.Given as goal

abbrev pub invariant-loop-statement : goal.invariant-loop-statement
invariant-loop-statement l = AreLawfulTrees l.trees
