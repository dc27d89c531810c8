use Rattle.std.proofs.Common.{◌≡◌, length}
use Rattle.xapi_alike.specs.Ranks.{indices_to}
use Rattle.xapi_alike.proofs.ranks.fill.Given as goal

abbrev pub invariant-loop-index : goal.invariant-loop-index
invariant-loop-index l = (l.into.items ≡ indices_to l.index) × (length l.into.items ≡ l.index)
