use Rattle.std.proofs.Common.{◌≡◌, map}
use Rattle.std.specs.List.{range_with_len}
use Rattle.cmi5_running_verdicts.specs.Told.{is_all_met_at}
use Rattle.cmi5_running_verdicts.proofs.telling.verdicts.Given as goal

abbrev pub invariant-loop-index : goal.invariant-loop-index
invariant-loop-index l = l.told.items ≡ map (is_all_met_at l.tallies) (range_with_len 0 l.index)
