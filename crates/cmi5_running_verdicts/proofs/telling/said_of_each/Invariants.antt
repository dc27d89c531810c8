use Rattle.std.proofs.Common.{◌≡◌, map}
use Rattle.std.specs.List.{range_with_len}
use Rattle.cmi5_running_verdicts.specs.Told.{said_at}
use Rattle.cmi5_running_verdicts.proofs.telling.said_of_each.Given as goal

abbrev pub invariant-loop-index : goal.invariant-loop-index
invariant-loop-index l = l.said.items ≡ map (said_at l.tallies) (range_with_len 0 l.index)
