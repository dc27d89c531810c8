use Rattle.std.proofs.Common.{◌≡◌, ◌<◌, ℕ, length}
use Rattle.cmi5_running_verdicts.specs.Changes.{fails_untold, tally_of, untold}
use Rattle.cmi5_running_verdicts.proofs.Fresh.{IsPart}
use Rattle.cmi5_running_verdicts.proofs.counting.raise_each.Given as goal

abbrev pub invariant-loop-index : goal.invariant-loop-index
invariant-loop-index l = record {
  long : length l.tallies ≡ length l.fn.tallies;
  raised : (holder : ℕ) → holder < length l.fn.tallies → tally_of l.fn.tallies holder ≡ untold → IsPart (fails_untold l.nodes holder) (length l.nodes) l.index (tally_of l.tallies holder);
}
