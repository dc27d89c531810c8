use Rattle.lrs_fold.proofs.fold.Fold.may_be_next.Goals as goal

pub refusal-requires-clause-written : goal.refusal-requires-clause-written
refusal-requires-clause-written c = tt
