use Rattle.std.proofs.Common.{◌+◌, ◌∙◌, drop, sym, arith, true}
use Rattle.std.specs.List.{list_any}
use Rattle.cmi5_running_verdicts.specs.Told.{voids_one}
use Rattle.lrs_ids.proofs.Turns.{any_fails, any_passes, next_found, next_passed, none_found}
use Rattle.cmi5_running_verdicts.proofs.telling.any_voids.Goals as goal
use Rattle.lrs_json.proofs.Lists.{drop_item}

pub loop-statement-preserved : goal.loop-statement-preserved
loop-statement-preserved c =
    let at = c.loop-statement in
    let those = c.args.statements.now in
    let x = c.statement-item.result in
    next_passed (list_any voids_one) those at.statement-index x _ (drop_item those at.statement-index x (omega arith) c.statement-item.is)
    (any_fails voids_one x (drop (at.statement-index + 1) those) (sym c.is_voiding.ensures ∙ c.if-is_voiding.false)) at.invariant

pub returns-then-is_voiding : goal.returns-then-is_voiding
returns-then-is_voiding c =
    let at = c.loop-statement in
    let those = c.args.statements.now in
    let x = c.statement-item.result in
    next_found (list_any voids_one) those at.statement-index x true _ (drop_item those at.statement-index x (omega arith) c.statement-item.is)
    (any_passes voids_one x (drop (at.statement-index + 1) those) (sym c.is_voiding.ensures ∙ c.if-is_voiding.true)) at.invariant

pub returns : goal.returns
returns c =
    let at = c.loop-statement in
    none_found (list_any voids_one) c.args.statements.now at.statement-index _ (omega arith) at.invariant
