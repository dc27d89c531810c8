use Rattle.std.proofs.Common.{◌≡◌, ◌+◌, length}
use Rattle.lrs_hall.specs.Acts.{ActsOn, limit_in}
use Rattle.lrs_hall.specs.Serving.{KeepsPass}
use Rattle.lrs_hall.specs.Steps.{worker}
use Rattle.lrs_hall.proofs.Doors.{ServedSoFar}
use Rattle.lrs_hall.proofs.serving.serve_with.Given as goal

abbrev pub invariant-loop-left : goal.invariant-loop-left
invariant-loop-left g l = record {
  count : length l.talks.items + l.left ≡ l.fn.connections;
  served : ServedSoFar (ActsOn (limit_in l.fn.pass.marks)) (worker l.fn.draws l.fn.pass (g.O.Door.state l.fn.door).readings) (worker l.draws l.pass (g.O.Door.state l.door).readings)
      (g.O.Door.state l.fn.door) (g.O.Door.state l.door) l.talks.items;
  pass : KeepsPass l.turns l.fn.pass l.pass;
}

abbrev pub decreases-loop-left : goal.decreases-loop-left
decreases-loop-left g l = l.left
