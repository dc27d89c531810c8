use Rattle.std.proofs.Common.{drop}
use Rattle.xapi_statement_keys.proofs.Growing.{KeysSoFar}
use Rattle.xapi_statement_keys.proofs.Named.{held_keys}
use Rattle.xapi_statement_keys.proofs.activities.push_each_activity.Given as goal

-- those so far, and those of what is left
abbrev pub invariant-loop-item : goal.invariant-loop-item
invariant-loop-item l = KeysSoFar l.fn.keys.items l.keys.items (held_keys (drop l.item-index l.items)) (held_keys l.items)
