use Rattle.std.proofs.Common.{Option, subst, sym}
use Rattle.lrs_learning.specs.LrsPartsParts.{state_of}
use Rattle.lrs_reads.specs.LrsRefusalsHandedProofs.{nothing_known}
use Rattle.lrs_reads.specs.LrsRefusalsSubmissions.{IsWrittenIf}
use Rattle.lrs_reads.specs.LrsRefusalsPreparedTexts.{PreparedTexts}
use Rattle.lrs_fold.proofs.fold.Fold.write_outcome.Goals as goal

pub refusal-requires-clause-written : goal.refusal-requires-clause-written
refusal-requires-clause-written c = subst (λ (o : Option PreparedTexts). IsWrittenIf c.args.entry.write o) (sym c.as_ref.ensures.value) c.requires.written

pub refusal-requires-clause-known : goal.refusal-requires-clause-known
refusal-requires-clause-known c = nothing_known (state_of c.args.self.now.parts) c.args.entry.draw c.args.entry.write
