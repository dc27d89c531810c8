use Rattle.std.proofs.Common.{◌≡◌, take, true}
use Rattle.xapi_index.specs.Index.{IsRising}
use Rattle.xapi_index.proofs.installing.are_rising.Given as goal

abbrev pub invariant-loop-at : goal.invariant-loop-at
invariant-loop-at l = l.rising ≡ true → IsRising (take l.at l.held)
