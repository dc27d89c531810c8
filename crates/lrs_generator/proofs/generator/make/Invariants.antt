use Rattle.lrs_generator.specs.Progress.{AreMade}
use Rattle.lrs_generator.proofs.generator.make.Given as goal

abbrev pub invariant-loop-done : goal.invariant-loop-done
invariant-loop-done l = AreMade l.seed l.first l.done l.trees l.number
