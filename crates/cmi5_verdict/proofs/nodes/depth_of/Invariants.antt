use Rattle.std.proofs.Common.{◌≡◌, ◌+◌, ◌-◌, length, Some}
use Rattle.cmi5_verdict.specs.Nodes.{depth_of, outward}
use Rattle.cmi5_verdict.proofs.nodes.depth_of.Given as goal

-- those so far, and those from this one outward
abbrev pub invariant-loop-step : goal.invariant-loop-step
invariant-loop-step l = l.step + length (outward l.nodes (length l.nodes - l.step) (Some l.here)) ≡ depth_of l.nodes l.fn.index
