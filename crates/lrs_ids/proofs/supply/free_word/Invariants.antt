use Rattle.std.proofs.Common.{◌+◌}
use Rattle.lrs_ids.specs.Ids.{is_free}
use Rattle.lrs_ids.proofs.MadeIds.{IsSoFar}
use Rattle.lrs_ids.proofs.supply.free_word.Given as goal

abbrev pub invariant-loop-free : goal.invariant-loop-free
invariant-loop-free g l = IsSoFar (is_free (g.U.UsedIds.used l.used) l.gone.keys) l.most l.word (l.word + l.most) l.free
