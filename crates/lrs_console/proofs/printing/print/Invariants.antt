use Rattle.std.proofs.Common.{length, ◌-◌, ◌≡◌, ◌≤◌}
use Rattle.lrs_console.specs.Printing.{HasTaken}
use Rattle.lrs_console.proofs.printing.print.Given as goal

abbrev pub invariant-loop-done : goal.invariant-loop-done
invariant-loop-done g l = (l.done ≤ length l.bytes) × HasTaken l.bytes l.done (g.O.Sink.taken l.initial.out) (g.O.Sink.taken l.out)
    × (g.O.Sink.fault_count l.out ≡ g.O.Sink.fault_count l.initial.out)

abbrev pub decreases-loop-done : goal.decreases-loop-done
decreases-loop-done g l = length l.bytes - l.done
