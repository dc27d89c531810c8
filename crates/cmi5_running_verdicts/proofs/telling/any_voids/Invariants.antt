use Rattle.std.proofs.Common.{◌≡◌, drop}
use Rattle.cmi5_running_verdicts.specs.Told.{any_voids}
use Rattle.cmi5_running_verdicts.proofs.telling.any_voids.Given as goal

abbrev pub invariant-loop-statement : goal.invariant-loop-statement
invariant-loop-statement l = any_voids (drop l.statement-index l.statements) ≡ any_voids l.statements
