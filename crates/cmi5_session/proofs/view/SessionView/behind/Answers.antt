use Rattle.std.proofs.Common.{◌∙◌}
use Rattle.cmi5_session.proofs.Behind.{folded}
use Rattle.cmi5_session.proofs.view.SessionView.behind.Goals as goal
use Rattle.cmi5_session.specs.Views.{seen}

pub returns-clause-folded : goal.returns-clause-folded
returns-clause-folded c = λ fetched abandoned before s is received own quiet at.
    c.next.ensures ∙ folded c.args.self.launch.now fetched abandoned before s (seen c.args.self) c.args.statement.now c.args.voided is received own quiet at
