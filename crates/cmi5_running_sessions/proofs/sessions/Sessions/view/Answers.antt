use Rattle.std.proofs.Common.{◌∙◌, ℕ, List, refl, ap}
use Rattle.cmi5_running_sessions.specs.Maps.{kept_in, unit_at}
use Rattle.cmi5_running_sessions.specs.Kept.{SeenSessions, nothing_reached, own_of, reached_of}
use Rattle.cmi5_running_sessions.proofs.Viewing.{viewed}
use Rattle.cmi5_running_sessions.proofs.sessions.Sessions.view.Goals as goal

pub returns : goal.returns
returns c = λ statements stands.
    let launch = c.args.launch.now in
    viewed launch c.args.fetched c.args.abandoned c.args.self.now statements stands c.get-own.result c.get-reached.result c.phase_by.result _ _
    (c.get-own.ensures ∙ ap (λ (s : SeenSessions). own_of launch.session s) c.self.view_is)
    (c.get-reached.ensures ∙ (ap (λ (a : List ℕ). kept_in nothing_reached (unit_at launch.registration a c.self.inside.reached)) c.text.ensures.lent
    ∙ ap (λ (s : SeenSessions). reached_of launch.registration launch.activity s) c.self.view_is))
    c.phase_by.ensures refl refl
