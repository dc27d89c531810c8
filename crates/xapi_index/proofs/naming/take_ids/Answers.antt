use Rattle.std.proofs.Common.{◌++◌, ap, refl, subst}
use Rattle.std.proofs.lemmas.List.{at_drop_all}
use Rattle.lrs_ids.specs.IdSupply.{GiveSame, left_of}
use Rattle.xapi_index.specs.Batches.{with_ids, ids_under, supply_after}
use Rattle.xapi_index.proofs.Supplies.{after_more, names_more}
use Rattle.xapi_index.proofs.naming.take_ids.Goals as goal
use Rattle.lrs_json.proofs.Lists.{drop_item}

pub loop-statement-init : goal.loop-statement-init
loop-statement-init g c =
    let supply = left_of (g.U.UsedIds.used c.args.used.now) c.args.supply.now in record {
      with_ids = ap (λ xs. xs ++ ids_under (with_ids supply c.args.statements.now)) c.in_ok-ids.ensures.items;
      left = record { same = λ k. refl };
    }

pub loop-statement-preserved : goal.loop-statement-preserved
loop-statement-preserved g c =
    let ts = c.args.statements.now in
    let at = c.loop-statement in
    let t = c.statement-item.result in
    let first = left_of (g.U.UsedIds.used c.args.used.now) c.args.supply.now in
    let old = left_of (g.U.UsedIds.used c.args.used.now) at.supply in
    let new = left_of (g.U.UsedIds.used c.args.used.now) c.next_id.new.supply in
    let next = drop_item ts at.statement-index t c.loop-statement-test.true c.statement-item.is in
    record {
      with_ids = names_more old new ts at.statement-index t c.in_ok-next_id.field-0 at.ids.items c.push.new.self.items (ids_under (with_ids first ts)) next
          c.in_ok-next_id.ensures.id c.in_ok-next_id.ensures.left c.in_ok-push.ensures.items at.invariant.with_ids;
      left = after_more old new first ts at.statement-index t ts next c.in_ok-next_id.ensures.left at.invariant.left;
    }

pub returns-clause-left : goal.returns-clause-left
returns-clause-left g c =
    let ts = c.args.statements.now in
    let at = c.loop-statement in
    let first = left_of (g.U.UsedIds.used c.args.used.now) c.args.supply.now in
    let last = left_of (g.U.UsedIds.used c.args.used.now) at.supply in
    subst (λ s. GiveSame s (supply_after first ts)) (at_drop_all (supply_after last) ts at.statement-index c.loop-statement-test.false) at.invariant.left
