use Rattle.std.proofs.Common.{subst}
use Rattle.lrs_learning.specs.LrsPartsParts.{state_of}
use Rattle.lrs_reads.specs.LrsRefusalsKnown.{IsKnownUnder}
use Rattle.lrs_reads.specs.LrsRefusalsKnownKnown.{Known}
use Rattle.lrs_fold.proofs.fold.Fold.is_held_under.Goals as goal

pub returns-in-Put : goal.returns-in-Put
returns-in-Put c = subst (λ (k : Known). IsKnownUnder (state_of c.args.self.now.parts) c.args.id.now k) c.in-Put.is c.requires
