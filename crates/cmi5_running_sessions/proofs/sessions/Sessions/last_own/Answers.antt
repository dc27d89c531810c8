use Rattle.std.proofs.Common.{◌∙◌, ap, sym, unwrap_or}
use Rattle.cmi5_running_sessions.specs.Kept.{SeenSessions, own_of}
use Rattle.cmi5_running_sessions.specs.declared.own.OwnSaid.{OwnSaid}
use Rattle.cmi5_running_sessions.proofs.Hearing.{last_by}
use Rattle.cmi5_running_sessions.proofs.sessions.Sessions.last_own.Goals as goal
use Rattle.cmi5_session.specs.Marked.{statements_of}

pub returns-in-Some : goal.returns-in-Some
returns-in-Some c = λ those stands.
    let said = c.get.ensures ∙ (ap (λ (s : SeenSessions). own_of c.args.session.now s) c.self.view_is ∙ stands.own c.args.session.now) in
    ap (λ o. unwrap_or o c.args.moment) (sym c.in-Some.is ∙ ap (λ (o : OwnSaid). o.last) said) ∙ sym (last_by c.args.session.now c.args.moment (statements_of those))

pub returns-in-None : goal.returns-in-None
returns-in-None c = λ those stands.
    let said = c.get.ensures ∙ (ap (λ (s : SeenSessions). own_of c.args.session.now s) c.self.view_is ∙ stands.own c.args.session.now) in
    ap (λ o. unwrap_or o c.args.moment) (sym c.in-None.is ∙ ap (λ (o : OwnSaid). o.last) said) ∙ sym (last_by c.args.session.now c.args.moment (statements_of those))
