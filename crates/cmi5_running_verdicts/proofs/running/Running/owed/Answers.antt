use Rattle.std.proofs.Common.{◌∙◌, sym}
use Rattle.cmi5_verdict.specs.Cmi5SessionMarked.{marked}
use Rattle.cmi5_verdict.specs.Nodes.{seen}
use Rattle.cmi5_running_verdicts.proofs.Kept.{tallies_in}
use Rattle.cmi5_running_verdicts.proofs.running.Running.owed.Goals as goal

pub returns-then-any_voids : goal.returns-then-any_voids
returns-then-any_voids c = λ stands. c.owed.ensures

pub owed_by_tallies-requires : goal.owed_by_tallies-requires
owed_by_tallies-requires c = sym c.any_voids.ensures ∙ c.if-any_voids.false

pub returns-else-any_voids : goal.returns-else-any_voids
returns-else-any_voids c = λ stands.
    c.owed_by_tallies.ensures
    (tallies_in c.args.self.now c.args.number (seen c.args.enrolment.now) (marked c.args.statements.now.held.now.held) c.tallies.result.now c.tallies.ensures stands)
