use Rattle.std.proofs.Common.{◌≡◌, ◌<◌, ◌-◌, ℕ, length, Some}
use Rattle.cmi5_running_verdicts.specs.Changes.{moved_if, tally_of}
use Rattle.cmi5_verdict.specs.Nodes.{is_under, outward}
use Rattle.cmi5_verdict.proofs.Holders.{is_among}
use Rattle.cmi5_running_verdicts.proofs.holding.follow.Given as goal

-- what is moved so far, and what this one and those further outward move
abbrev pub invariant-loop : goal.invariant-loop
invariant-loop l = record {
  long : length l.tallies ≡ length l.fn.tallies;
  moved : (holder : ℕ) → holder < length l.fn.tallies
      → moved_if (is_among holder (outward l.nodes (length l.nodes - l.counter) (Some l.here))) l.is_met (tally_of l.tallies holder)
      ≡ moved_if (is_under l.nodes holder l.fn.index) l.is_met (tally_of l.fn.tallies holder);
}
