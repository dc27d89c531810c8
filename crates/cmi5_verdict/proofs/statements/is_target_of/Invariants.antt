use Rattle.std.proofs.Common.{◌≡◌, drop}
use Rattle.cmi5_session.specs.XapiStatementStatements.{is_target}
use Rattle.cmi5_verdict.proofs.statements.is_target_of.Given as goal

abbrev pub invariant-loop-statement : goal.invariant-loop-statement
invariant-loop-statement l = is_target l.id (drop l.statement-index l.statements) ≡ is_target l.id l.statements
