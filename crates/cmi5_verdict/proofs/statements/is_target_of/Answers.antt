use Rattle.std.proofs.Common.{◌+◌, ◌∙◌, drop, sym, arith, true}
use Rattle.std.specs.List.{list_any}
use Rattle.lrs_ids.proofs.Turns.{any_fails, any_passes, next_found, next_passed, none_found}
use Rattle.cmi5_session.specs.XapiStatementStatements.{voids}
use Rattle.cmi5_verdict.proofs.statements.is_target_of.Goals as goal
use Rattle.lrs_json.proofs.Lists.{drop_item}

pub loop-statement-preserved : goal.loop-statement-preserved
loop-statement-preserved c =
    let at = c.loop-statement in
    let those = c.args.statements.now in
    let test = voids c.args.id.now in
    next_passed (list_any test) those at.statement-index c.statement-item.result _ (drop_item those at.statement-index c.statement-item.result (omega arith) c.statement-item.is)
    (any_fails test c.statement-item.result (drop (at.statement-index + 1) those) (sym c.voids.ensures ∙ c.if-voids.false)) at.invariant

pub returns-then-voids : goal.returns-then-voids
returns-then-voids c =
    let at = c.loop-statement in
    let those = c.args.statements.now in
    let test = voids c.args.id.now in
    next_found (list_any test) those at.statement-index c.statement-item.result true _ (drop_item those at.statement-index c.statement-item.result (omega arith) c.statement-item.is)
    (any_passes test c.statement-item.result (drop (at.statement-index + 1) those) (sym c.voids.ensures ∙ c.if-voids.true)) at.invariant

pub returns : goal.returns
returns c =
    let at = c.loop-statement in
    none_found (list_any (voids c.args.id.now)) c.args.statements.now at.statement-index _ (omega arith) at.invariant
