use Rattle.std.proofs.Common.{◌≤◌, length}
use Rattle.lrs_edge.proofs.file.read_on.Given as goal

abbrev pub invariant-loop : goal.invariant-loop
invariant-loop l = l.number ≤ length l.into
