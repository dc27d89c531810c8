use Rattle.std.proofs.Common.{◌≡◌, ◌++◌, drop}
use Rattle.lrs_ids.specs.IdSupply.{GiveSame, left_of}
use Rattle.xapi_index.specs.Batches.{with_ids, ids_under, supply_after}
use Rattle.xapi_index.proofs.naming.take_ids.Given as goal

abbrev pub invariant-loop-statement : goal.invariant-loop-statement
invariant-loop-statement g l = record {
  with_ids : l.ids.items ++ ids_under (with_ids (left_of (g.U.UsedIds.used l.used) l.supply) (drop l.statement-index l.statements))
      ≡ ids_under (with_ids (left_of (g.U.UsedIds.used l.used) l.fn.supply) l.statements);
  left : GiveSame (supply_after (left_of (g.U.UsedIds.used l.used) l.supply) (drop l.statement-index l.statements))
      (supply_after (left_of (g.U.UsedIds.used l.used) l.fn.supply) l.statements);
}
