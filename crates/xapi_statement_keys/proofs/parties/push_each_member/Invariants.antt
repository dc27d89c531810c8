use Rattle.std.proofs.Common.{drop}
use Rattle.xapi_statement_keys.proofs.Growing.{KeysSoFar}
use Rattle.xapi_statement_keys.proofs.Named.{member_keys}
use Rattle.xapi_statement_keys.proofs.parties.push_each_member.Given as goal

-- those so far, and those of what is left
abbrev pub invariant-loop-item : goal.invariant-loop-item
invariant-loop-item l = KeysSoFar l.fn.keys.items l.keys.items (member_keys l.direct (drop l.item-index l.items)) (member_keys l.direct l.items)
