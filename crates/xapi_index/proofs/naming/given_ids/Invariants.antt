use Rattle.std.proofs.Common.{◌≡◌, ◌++◌, drop}
use Rattle.xapi_index.specs.Batches.{given_ids}
use Rattle.xapi_index.proofs.naming.given_ids.Given as goal

abbrev pub invariant-loop-statement : goal.invariant-loop-statement
invariant-loop-statement l = l.ids.items ++ given_ids (drop l.statement-index l.statements) ≡ given_ids l.statements
