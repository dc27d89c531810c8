use Rattle.std.proofs.Common.{◌≡◌, ◌<◌, ◌-◌, ◌&&◌, ℕ, not, length, Some}
use Rattle.cmi5_verdict.specs.Marks.{is_marked}
use Rattle.cmi5_verdict.specs.Nodes.{is_under, outward}
use Rattle.cmi5_verdict.proofs.Holders.{is_among}
use Rattle.cmi5_verdict.proofs.marking.clear_holders.Given as goal

-- what is cleared so far, and what this one and those further outward clear
abbrev pub invariant-loop : goal.invariant-loop
invariant-loop l = record {
  long : length l.satisfied ≡ length l.fn.satisfied;
  left : (holder : ℕ) → holder < length l.fn.satisfied
      → is_marked l.satisfied holder && not (is_among holder (outward l.nodes (length l.nodes - l.counter) (Some l.here)))
      ≡ is_marked l.fn.satisfied holder && not (is_under l.nodes holder l.fn.index);
}
