use Rattle.std.proofs.Common.{◌≡◌, Bool, IfOk, if◌then◌else◌, subst}
use Rattle.lrs_reads.specs.LrsHistoryAnswers.{acceptance_said}
use Rattle.lrs_replies.specs.declared.answered.Answered.TheVariants.{Kept, Same}
use Rattle.lrs_fold.proofs.saying.write_said.Goals as goal

pub returns : goal.returns
returns c =
    subst (λ (same : Bool). IfOk c.acceptance_said.result (λ said. said ≡ acceptance_said c.args.effect.now.acceptance (if same then Same else Kept))) c.changes_nothing.ensures c.acceptance_said.ensures
