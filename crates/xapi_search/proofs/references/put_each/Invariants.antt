use Rattle.std.proofs.Common.{◌≡◌, ◌++◌}
use Rattle.xapi_search.proofs.references.put_each.Given as goal

-- the list so far, and the positions that are left
abbrev pub invariant-loop-position : goal.invariant-loop-position
invariant-loop-position l = l.list.items ++ l.position-iterator ≡ l.fn.list.items ++ l.found.keys
