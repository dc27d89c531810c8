use Rattle.std.proofs.Common.{◌≡◌, take, true}
use Rattle.xapi_search.specs.Narrowing.{is_in_each}
use Rattle.xapi_search.proofs.sought.is_in_each.Given as goal

abbrev pub invariant-loop-list : goal.invariant-loop-list
invariant-loop-list l = is_in_each (take l.list-index l.lists) l.position ≡ true
