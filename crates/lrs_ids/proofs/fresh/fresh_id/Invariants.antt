use Rattle.lrs_ids.proofs.FreshLemmas.{AllUsed}
use Rattle.lrs_ids.proofs.fresh.fresh_id.Given as goal

abbrev pub invariant-loop-step : goal.invariant-loop-step
invariant-loop-step l = AllUsed l.used.keys l.word l.step
