use Rattle.std.proofs.Common.{◌≤◌, ◌+◌, take}
use Rattle.xapi_pages.specs.Chains.{chain_passes, is_direct_at, unknown_below}
use Rattle.xapi_search.specs.XapiStatementStatements.{referred_at}
use Rattle.xapi_pages.proofs.Ways.{IsOnWay}
use Rattle.xapi_pages.proofs.chains.walk.Given as goal

-- The way so far; there were no more steps than positions that are known.
abbrev pub invariant-steps : goal.invariant-steps
invariant-steps l = record {
  way : IsOnWay (is_direct_at l.sought) (referred_at (take l.asof l.index.held)) l.asof (chain_passes l.sought (take l.asof l.index.held)) l.marks l.path.items l.fn.start l.position;
  counted : l.walked + unknown_below l.asof l.marks ≤ l.asof;
}

abbrev pub decreases-steps : goal.decreases-steps
decreases-steps l = unknown_below l.asof l.marks
