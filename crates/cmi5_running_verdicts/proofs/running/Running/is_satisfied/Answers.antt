use Rattle.std.proofs.Common.{◌∙◌}
use Rattle.cmi5_verdict.specs.Cmi5SessionMarked.{marked}
use Rattle.cmi5_running_verdicts.proofs.Kept.{tallies_in}
use Rattle.cmi5_running_verdicts.proofs.Told.{verdict_told}
use Rattle.cmi5_running_verdicts.proofs.running.Running.is_satisfied.Goals as goal

pub returns : goal.returns
returns c = λ e statements stands lt.
    c.is_all_met_at.ensures
    ∙ verdict_told e statements c.tallies.result.now (tallies_in c.args.self.now c.args.number e (marked statements) c.tallies.result.now c.tallies.ensures stands) c.args.index lt
