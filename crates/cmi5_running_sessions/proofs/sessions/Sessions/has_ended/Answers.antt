use Rattle.std.proofs.Common.{◌∙◌, ap}
use Rattle.cmi5_running_sessions.specs.Kept.{SeenSessions, own_of}
use Rattle.cmi5_running_sessions.specs.declared.own.OwnSaid.{OwnSaid}
use Rattle.cmi5_running_sessions.proofs.sessions.Sessions.has_ended.Goals as goal

pub returns : goal.returns
returns c = λ those stands.
    ap (λ (said : OwnSaid). said.ended) (c.get.ensures ∙ (ap (λ (s : SeenSessions). own_of c.args.session.now s) c.self.view_is ∙ stands.own c.args.session.now))
