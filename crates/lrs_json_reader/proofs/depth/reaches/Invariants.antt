use Rattle.std.proofs.Common.{◌≡◌, ◌<◌, length}
use Rattle.lrs_json_reader.specs.Brackets.{reaches}
use Rattle.lrs_json_reader.specs.declared.depth.ScanState.TheVariants.{Outside}
use Rattle.lrs_json_reader.proofs.depth.reaches.Given as goal

abbrev pub invariant-loop-left : goal.invariant-loop-left
invariant-loop-left l = (reaches l.limit 0 Outside l.bytes ≡ reaches l.limit l.depth l.mode l.left) × (l.depth < l.limit)

abbrev pub decreases-loop-left : goal.decreases-loop-left
decreases-loop-left l = length l.left
