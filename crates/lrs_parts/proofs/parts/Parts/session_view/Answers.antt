use Rattle.std.proofs.Common.{subst}
use Rattle.cmi5_running_sessions.specs.Kept.{SaidStandsFor}
use Rattle.cmi5_running_sessions.specs.Cmi5SessionMarked.{marked}
use Rattle.lrs_parts.specs.Parts.{SeenParts}
use Rattle.lrs_parts.proofs.parts.Parts.session_view.Goals as goal

pub returns : goal.returns
returns c =
    c.view.ensures c.args.self.now.statements.held
    (subst (λ (v : SeenParts). SaidStandsFor c.self.inside.progress.sessions (marked v.statements.held)) c.self.view_is c.self.invariant.follows.sessions)
