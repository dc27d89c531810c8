use Rattle.std.proofs.Common.{◌≡◌, ◌<◌, ◌≤◌, ℕ, false}
use Rattle.xapi_search.specs.Narrowing.{is_in_each}
use Rattle.xapi_search.proofs.direct.leap_each.Given as goal

-- none that stands before the position stands in each list
abbrev pub invariant-loop-list : goal.invariant-loop-list
invariant-loop-list l = record {
  ahead : l.from ≤ l.position;
  skips : (k : ℕ) → l.from ≤ k → k < l.position → is_in_each l.lists k ≡ false;
}
