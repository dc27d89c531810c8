use Rattle.lrs_learning.specs.LrsPartsParts.{state_of}
use Rattle.lrs_reads.specs.LrsRefusalsHandedProofs.{nothing_known}
use Rattle.lrs_fold.proofs.fold.Fold.prepare.Goals as goal

pub prepare_known-effect-requires-clause-known : goal.prepare_known-effect-requires-clause-known
prepare_known-effect-requires-clause-known c = nothing_known (state_of c.args.self.now.parts) c.args.entry.draw c.args.entry.write
