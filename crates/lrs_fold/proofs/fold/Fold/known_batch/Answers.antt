use Rattle.lrs_learning.specs.LrsPartsParts.{state_of}
use Rattle.lrs_reads.specs.LrsRefusalsHandedProofs.{taken_batch}
use Rattle.lrs_fold.proofs.fold.Fold.known_batch.Goals as goal

pub returns-in-Some : goal.returns-in-Some
returns-in-Some c = taken_batch (state_of c.args.self.now.parts) c.args.draw.now c.args.statements.now c.args.known.now c.in-Some.batch c.in-Some.ensures c.requires

pub returns-in-None : goal.returns-in-None
returns-in-None c = c.batch_of.ensures.batch
