use Rattle.std.proofs.Common.{◌<◌}
use Rattle.xapi_search.proofs.sought.shortest_of.Given as goal

abbrev pub invariant-loop-i : goal.invariant-loop-i
invariant-loop-i l = l.best < l.i
