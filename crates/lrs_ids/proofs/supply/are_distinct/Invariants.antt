use Rattle.std.proofs.Common.{◌≡◌, drop}
use Rattle.lrs_ids.specs.Ids.{are_distinct}
use Rattle.lrs_ids.proofs.MadeIds.{are_distinct_from}
use Rattle.lrs_ids.proofs.supply.are_distinct.Given as goal

abbrev pub invariant-loop-id : goal.invariant-loop-id
invariant-loop-id l = are_distinct_from l.earlier.keys (drop l.id-index l.ids) ≡ are_distinct l.ids
