use Rattle.std.proofs.Common.{◌≡◌, drop}
use Rattle.std.specs.List.{list_any}
use Rattle.lrs_json.specs.View.{view}
use Rattle.xapi_statement.specs.Statement.{is_too_long}
use Rattle.lrs_refusals.proofs.forms.has_too_long.Given as goal

abbrev pub invariant-loop-statement : goal.invariant-loop-statement
invariant-loop-statement l = list_any (λ t. is_too_long (view t)) (drop l.statement-index l.statements) ≡ list_any (λ t. is_too_long (view t)) l.statements
