use Rattle.std.proofs.Common.{◌≤◌, length}
use Rattle.std.specs.Prelude.{vec_capacity}
use Rattle.lrs_hall.proofs.Gathered.{GatheredSoFar}
use Rattle.lrs_hall.proofs.workers.gather.Given as goal

abbrev pub invariant-loop-worker : goal.invariant-loop-worker
invariant-loop-worker g l = record {
  so : GatheredSoFar l.fn.workers.items l.workers.items l.passes.items l.doors.items l.talks.items l.end;
  passes : length l.fn.workers.items ≤ vec_capacity l.passes;
  doors : length l.fn.workers.items ≤ vec_capacity l.doors;
  talks : length l.fn.workers.items ≤ vec_capacity l.talks;
}

abbrev pub decreases-loop-worker : goal.decreases-loop-worker
decreases-loop-worker g l = length l.workers.items
