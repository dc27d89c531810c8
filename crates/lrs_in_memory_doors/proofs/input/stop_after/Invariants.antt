use Rattle.std.proofs.Common.{◌≡◌, ◌⊎◌, ◌<◌, ◌≤◌, ℕ, get_or, Contains}
use Rattle.lrs_in_memory_doors.proofs.input.stop_after.Given as goal

abbrev pub invariant-loop-cut : goal.invariant-loop-cut
invariant-loop-cut l = record {
  within : l.stop ≤ l.end;
  later : l.offset < l.end → l.offset < l.stop;
  least : l.offset ≤ l.stop;
  next : (k d : ℕ) → k < l.cut-index → l.offset < get_or l.cuts k d → l.stop ≤ get_or l.cuts k d;
  stop : (l.stop ≡ l.end) ⊎ Contains l.cuts l.stop;
}
