use Rattle.std.proofs.Common.{◌≡◌, ◌≤◌, length, drop}
use Rattle.lrs_in_memory.specs.Steps.{crash_image}
use Rattle.lrs_in_memory.specs.Calls.{steps}
use Rattle.lrs_in_memory.proofs.CallLists.{total}
use Rattle.lrs_in_memory.proofs.bytes.replay.Given as goal

abbrev pub invariant-loop-call : goal.invariant-loop-call
invariant-loop-call l = record {
  image : crash_image l.pending (steps (drop l.call-index l.calls) l.rest) l.read.items l.left.items ≡ crash_image l.pending (steps l.calls l.log) l.first l.first;
  fits : total (drop l.call-index l.calls) ≤ length l.rest;
}
