use Rattle.std.proofs.Common.{◌≡◌, ◌<◌, ◌-◌, ◌&&◌, ℕ, length}
use Rattle.std.specs.List.{list_all, range_with_len}
use Rattle.cmi5_verdict.specs.Marks.{is_marked, is_met_or_elsewhere}
use Rattle.cmi5_verdict.specs.Nodes.{indices}
use Rattle.cmi5_verdict.proofs.marking.clear_each.Given as goal

-- what is cleared so far, and what the nodes that are left clear
abbrev pub invariant-loop-index : goal.invariant-loop-index
invariant-loop-index l = record {
  long : length l.satisfied ≡ length l.fn.satisfied;
  passed : (holder : ℕ) → holder < length l.fn.satisfied
      → is_marked l.satisfied holder && list_all (is_met_or_elsewhere l.nodes l.said holder) (range_with_len l.index (length l.nodes - l.index))
      ≡ is_marked l.fn.satisfied holder && list_all (is_met_or_elsewhere l.nodes l.said holder) (indices l.nodes);
}
