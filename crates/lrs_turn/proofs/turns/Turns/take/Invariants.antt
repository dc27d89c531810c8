use Rattle.std.proofs.Common.{◌≡◌}
use Rattle.lrs_turn.specs.Passes.{IsIdle}
use Rattle.lrs_turn.proofs.turns.Turns.take.Given as goal

abbrev pub invariant-loop : goal.invariant-loop
invariant-loop g l =
    (goal.iterator-loop g).can_next l.iterator' × (goal.iterator-loop g).is_finite l.iterator'
    × IsIdle l.self l.pass × (l.pass ≡ l.fn.pass)
