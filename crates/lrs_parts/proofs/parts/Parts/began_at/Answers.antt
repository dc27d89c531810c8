use Rattle.std.proofs.Common.{◌∙◌, List, ap}
use Rattle.cmi5_running_sessions.specs.Cmi5SessionMarked.{marked}
use Rattle.cmi5_running_sessions.specs.Cmi5SessionMoments.{began_at}
use Rattle.cmi5_running_sessions.proofs.Hearing.{marked_back}
use Rattle.lrs_parts.specs.Parts.{SeenParts}
use Rattle.xapi_statement.specs.Stored.{StoredStatement}
use Rattle.lrs_parts.proofs.parts.Parts.began_at.Goals as goal

pub returns : goal.returns
returns c =
    let all = c.self.inside.statements.held in
    c.began_at.ensures (marked all) c.self.invariant.follows.sessions
    ∙ ap (λ (ss : List StoredStatement). began_at c.args.session.now ss) (marked_back all all ∙ ap (λ (v : SeenParts). v.statements.held) c.self.view_is)
