use Rattle.std.proofs.Common.{drop}
use Rattle.lrs_json.proofs.Sets.{SetSoFar}
use Rattle.lrs_json_written.specs.Fitting.{names_in}
use Rattle.lrs_json_written.proofs.names.many_are_distinct.Given as goal

abbrev pub invariant-loop-member : goal.invariant-loop-member
invariant-loop-member l = SetSoFar l.names (names_in (drop l.member-index l.members)) (names_in l.members)
