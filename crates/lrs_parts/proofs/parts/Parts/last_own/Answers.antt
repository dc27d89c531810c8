use Rattle.std.proofs.Common.{◌∙◌, List, ap}
use Rattle.cmi5_running_sessions.specs.Cmi5SessionMarked.{marked}
use Rattle.cmi5_running_sessions.specs.Cmi5SessionMoments.{last_own}
use Rattle.cmi5_running_sessions.proofs.Hearing.{marked_back}
use Rattle.lrs_parts.specs.Parts.{SeenParts}
use Rattle.xapi_statement.specs.Stored.{StoredStatement}
use Rattle.lrs_parts.proofs.parts.Parts.last_own.Goals as goal

pub returns : goal.returns
returns c =
    let all = c.self.inside.statements.held in
    c.last_own.ensures (marked all) c.self.invariant.follows.sessions
    ∙ ap (λ (ss : List StoredStatement). last_own c.args.session.now c.args.moment ss) (marked_back all all ∙ ap (λ (v : SeenParts). v.statements.held) c.self.view_is)
