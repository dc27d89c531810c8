use Rattle.std.proofs.Common.{◌+◌, drop, sym, ◌∙◌, arith, true}
use Rattle.std.specs.List.{list_any}
use Rattle.lrs_json.specs.View.{view}
use Rattle.lrs_json.proofs.Lists.{drop_item}
use Rattle.xapi_statement.specs.Statement.{is_too_long}
use Rattle.lrs_ids.proofs.Turns.{next_passed, next_found, none_found, any_fails, any_passes}
use Rattle.lrs_refusals.proofs.forms.has_too_long.Goals as goal

pub loop-statement-preserved : goal.loop-statement-preserved
loop-statement-preserved c =
    let rest = drop (c.loop-statement.statement-index + 1) c.args.statements.now in
    next_passed (list_any (λ t. is_too_long (view t))) c.args.statements.now c.loop-statement.statement-index c.statement-item.result _ (drop_item c.args.statements.now c.loop-statement.statement-index c.statement-item.result (omega arith) c.statement-item.is)
    (any_fails (λ t. is_too_long (view t)) c.statement-item.result rest (sym c.is_too_long.ensures ∙ c.if-is_too_long.false)) c.loop-statement.invariant

pub returns-then-is_too_long : goal.returns-then-is_too_long
returns-then-is_too_long c =
    let rest = drop (c.loop-statement.statement-index + 1) c.args.statements.now in
    next_found (list_any (λ t. is_too_long (view t))) c.args.statements.now c.loop-statement.statement-index c.statement-item.result true _ (drop_item c.args.statements.now c.loop-statement.statement-index c.statement-item.result (omega arith) c.statement-item.is)
    (any_passes (λ t. is_too_long (view t)) c.statement-item.result rest (sym c.is_too_long.ensures ∙ c.if-is_too_long.true)) c.loop-statement.invariant

pub returns : goal.returns
returns c = none_found (list_any (λ t. is_too_long (view t))) c.args.statements.now c.loop-statement.statement-index _ (omega arith) c.loop-statement.invariant
