use Rattle.std.proofs.Common.{[], refl, arith}
use Rattle.lrs_journal.proofs.Creating.{laid_none}
use Rattle.lrs_journal.proofs.builder.start.Goals as goal

pub invariant_of-result : goal.invariant_of-result
invariant_of-result g c = record {
  least = c.requires.limit.0;
  most = c.requires.limit.1;
  few = omega arith;
  far = omega arith;
  fits = omega (arith, c.requires.limit.0);
  shut = c.in-Ok.ensures.shut;
  tied = λ _ b told_b. ([], laid_none c.args.limit b c.requires.limit.0 c.requires.limit.1 (c.in-Ok.ensures.laid b told_b));
}

pub returns-in-Ok-clause-begun : goal.returns-in-Ok-clause-begun
returns-in-Ok-clause-begun g c = record { sizes = tt; offset = refl; counts = refl; reads = c.in-Ok.ensures.laid }
