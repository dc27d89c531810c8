use Rattle.std.proofs.Common.{◌+◌, drop, sym, ap, ◌∙◌, arith, Some}
use Rattle.std.specs.Option.{option_or}
use Rattle.lrs_made.specs.LrsHistoryRefusals.{broken_in}
use Rattle.lrs_ids.proofs.Turns.{next_passed, next_found, none_found}
use Rattle.lrs_refusals.proofs.forms.broken_in.Goals as goal
use Rattle.lrs_json.proofs.Lists.{drop_item}

pub loop-statement-preserved : goal.loop-statement-preserved
loop-statement-preserved c =
    let rest = drop (c.loop-statement.statement-index + 1) c.args.statements.now in
    next_passed (broken_in) c.args.statements.now c.loop-statement.statement-index c.statement-item.result _ (drop_item c.args.statements.now c.loop-statement.statement-index c.statement-item.result (omega arith) c.statement-item.is)
    (ap (λ o. option_or o (broken_in rest)) (sym c.in_ok-number.ensures.rule ∙ c.in_default.is)) c.loop-statement.invariant

pub returns-in-Some : goal.returns-in-Some
returns-in-Some c =
    let rest = drop (c.loop-statement.statement-index + 1) c.args.statements.now in
    next_found (broken_in) c.args.statements.now c.loop-statement.statement-index c.statement-item.result (Some c.in-Some.number) _ (drop_item c.args.statements.now c.loop-statement.statement-index c.statement-item.result (omega arith) c.statement-item.is)
    (ap (λ o. option_or o (broken_in rest)) (sym c.in_ok-number.ensures.rule ∙ c.in-Some.is)) c.loop-statement.invariant

pub returns : goal.returns
returns c = none_found (broken_in) c.args.statements.now c.loop-statement.statement-index _ (omega arith) c.loop-statement.invariant
