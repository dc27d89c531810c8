use Rattle.lrs_turn.specs.Passes.{IsIdle}
use Rattle.outside_tests.proofs.turn.add.Given as goal

abbrev pub invariant-loop : goal.invariant-loop
invariant-loop g l = IsIdle l.turns l.pass
