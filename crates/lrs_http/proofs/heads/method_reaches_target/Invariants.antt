use Rattle.std.proofs.Common.{◌≡◌, ◌-◌, ◌≤◌, length, drop}
use Rattle.lrs_http.specs.Reach.{method_reaches}
use Rattle.lrs_http.proofs.heads.method_reaches_target.Given as goal

abbrev pub invariant-loop-at : goal.invariant-loop-at
invariant-loop-at l = (l.at ≤ length l.bytes) × (method_reaches l.early (drop l.fn.start l.bytes) ≡ method_reaches l.early (drop l.at l.bytes))

abbrev pub decreases-loop-at : goal.decreases-loop-at
decreases-loop-at l = length l.bytes - l.at
