use Rattle.std.proofs.Common.{◌∙◌}
use Rattle.std.proofs.lemmas.Result.{IfOk-weaker}
use Rattle.cmi5_verdict.specs.Cmi5SessionMarked.{marked}
use Rattle.cmi5_running_verdicts.proofs.Kept.{tallies_in}
use Rattle.cmi5_running_verdicts.proofs.Told.{verdicts_told}
use Rattle.cmi5_running_verdicts.proofs.running.Running.verdicts.Goals as goal

pub returns : goal.returns
returns c =
    IfOk-weaker c.verdicts.result _ _
    (λ told is e statements stands.
    is ∙ verdicts_told e statements c.tallies.result.now (tallies_in c.args.self.now c.args.number e (marked statements) c.tallies.result.now c.tallies.ensures stands))
    c.verdicts.ensures
