use Rattle.std.proofs.Common.{◌∙◌, List, ap}
use Rattle.cmi5_running_sessions.specs.Cmi5LaunchNames.{terminated}
use Rattle.cmi5_running_sessions.specs.Cmi5SessionMarked.{marked}
use Rattle.cmi5_running_sessions.specs.Cmi5SessionOwn.{has_own}
use Rattle.cmi5_running_sessions.proofs.Hearing.{marked_back}
use Rattle.lrs_parts.specs.Parts.{SeenParts}
use Rattle.xapi_statement.specs.Stored.{StoredStatement}
use Rattle.lrs_parts.proofs.parts.Parts.has_ended.Goals as goal

pub returns : goal.returns
returns c =
    let all = c.self.inside.statements.held in
    c.has_ended.ensures (marked all) c.self.invariant.follows.sessions
    ∙ ap (λ (ss : List StoredStatement). has_own c.args.session.now terminated ss) (marked_back all all ∙ ap (λ (v : SeenParts). v.statements.held) c.self.view_is)
