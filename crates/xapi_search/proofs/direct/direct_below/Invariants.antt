use Rattle.std.proofs.Common.{◌≤◌, ◌-◌}
use Rattle.xapi_search.specs.Sought.{AreDirect}
use Rattle.xapi_search.proofs.direct.direct_below.Given as goal

-- those before the position from which the next leap goes
abbrev pub invariant-leaps : goal.invariant-leaps
invariant-leaps l = record {
  direct : AreDirect l.sought l.from l.found.items;
  within : l.from ≤ l.n;
}

abbrev pub decreases-leaps : goal.decreases-leaps
decreases-leaps l = l.n - l.from
