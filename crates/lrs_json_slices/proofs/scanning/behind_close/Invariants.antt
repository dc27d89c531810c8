use Rattle.std.proofs.Common.{◌≡◌, ◌<◌, ◌≤◌, ◌+◌, length}
use Rattle.lrs_json_reader.specs.declared.depth.ScanState.TheVariants.{Outside}
use Rattle.lrs_json_slices.specs.Scanning.{behind_close}
use Rattle.lrs_json_slices.proofs.scanning.behind_close.Given as goal

-- no more brackets are open than bytes were passed
abbrev pub invariant-loop-left : goal.invariant-loop-left
invariant-loop-left l = record {
  behind : behind_close l.depth Outside l.left ≡ behind_close 1 Outside l.bytes;
  some_open : 0 < l.depth;
  few_open : l.depth + length l.left ≤ length l.bytes + 1;
}

abbrev pub decreases-loop-left : goal.decreases-loop-left
decreases-loop-left l = length l.left
