use Rattle.lrs_ids.proofs.MadeIds.{IsSetSoFar}
use Rattle.lrs_ids.proofs.supply.set_of.Given as goal

abbrev pub invariant-loop-id : goal.invariant-loop-id
invariant-loop-id l = IsSetSoFar l.ids.keys l.given l.id-index
