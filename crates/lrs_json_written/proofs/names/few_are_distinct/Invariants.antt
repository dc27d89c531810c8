use Rattle.std.proofs.Common.{drop, take}
use Rattle.lrs_json_written.specs.Fitting.{names_in}
use Rattle.lrs_json_written.proofs.Distinct.{NewSoFar}
use Rattle.lrs_json_written.proofs.names.few_are_distinct.Given as goal

abbrev pub invariant-loop-i : goal.invariant-loop-i
invariant-loop-i l = NewSoFar (names_in (take l.i l.members)) (names_in (drop l.i l.members)) (names_in l.members)
