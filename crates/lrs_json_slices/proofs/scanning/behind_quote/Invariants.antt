use Rattle.std.proofs.Common.{◌≡◌, ◌≤◌, false, length}
use Rattle.lrs_json_slices.specs.Scanning.{behind_quote}
use Rattle.lrs_json_slices.proofs.scanning.behind_quote.Given as goal

abbrev pub invariant-loop-left : goal.invariant-loop-left
invariant-loop-left l = record {
  behind : behind_quote false l.left ≡ behind_quote false l.bytes;
  no_longer : length l.left ≤ length l.bytes;
}

abbrev pub decreases-loop-left : goal.decreases-loop-left
decreases-loop-left l = length l.left
