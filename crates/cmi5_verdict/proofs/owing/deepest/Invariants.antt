use Rattle.std.proofs.Common.{◌≤◌, length, take}
use Rattle.cmi5_verdict.proofs.Depths.{AreWithin}
use Rattle.cmi5_verdict.proofs.owing.deepest.Given as goal

abbrev pub invariant-loop-index : goal.invariant-loop-index
invariant-loop-index l = record {
  within : l.deepest ≤ length l.nodes;
  deepest : AreWithin l.nodes l.deepest (take l.index-index l.indices);
}
