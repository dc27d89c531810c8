use Rattle.std.proofs.Common.{◌≡◌, drop}
use Rattle.lrs_made.specs.LrsHistoryRefusals.{broken_in}
use Rattle.lrs_refusals.proofs.forms.broken_in.Given as goal

abbrev pub invariant-loop-statement : goal.invariant-loop-statement
invariant-loop-statement l = broken_in (drop l.statement-index l.statements) ≡ broken_in l.statements
