use Rattle.std.proofs.Common.{◌≡◌, ◌≤◌, ◌+◌, ◌++◌, length}
use Rattle.std.specs.Prelude.{vec_capacity}
use Rattle.lrs_hall.specs.Steps.{AreNumbered, backwards, door_held, pass_held}
use Rattle.lrs_hall.proofs.workers.workers_at.Given as goal

abbrev pub invariant-loop-door : goal.invariant-loop-door
invariant-loop-door g l = record {
  with_passes : l.passes.items ++ backwards pass_held l.workers.items ≡ l.fn.passes.items;
  at_doors : l.doors.items ++ backwards door_held l.workers.items ≡ l.fn.doors.items;
  numbered : AreNumbered l.fn.seed (length l.doors.items) l.workers.items;
  same : length l.passes.items ≡ length l.doors.items;
  count : length l.workers.items + length l.doors.items ≡ length l.fn.doors.items;
  room : length l.fn.doors.items ≤ vec_capacity l.workers;
}

abbrev pub decreases-loop-door : goal.decreases-loop-door
decreases-loop-door g l = length l.doors.items
