use Rattle.std.proofs.Common.{◌∙◌, ℕ, List, ap, option_copied, sym}
use Rattle.std.specs.Map.{lookup}
use Rattle.cmi5_running_sessions.specs.Maps.{kept_in}
use Rattle.cmi5_running_sessions.specs.Kept.{is_same, nothing_said}
use Rattle.cmi5_running_sessions.specs.declared.own.OwnSaid.{OwnSaid}
use Rattle.cmi5_running_sessions.proofs.said.SaidBySession.get.Goals as goal

pub returns-in-Some : goal.returns-in-Some
returns-in-Some c =
    ap (λ o. kept_in nothing_said o) (sym (ap option_copied c.in-Some.is) ∙ c.get.ensures.value)
    ∙ ap (λ (es : List (List ℕ × OwnSaid)). kept_in nothing_said (lookup (is_same c.args.session.now) es)) c.self.view_is

pub returns-in-None : goal.returns-in-None
returns-in-None c =
    c.nothing.ensures ∙ ap (λ o. kept_in nothing_said o) (sym (ap option_copied c.in-None.is) ∙ c.get.ensures.value)
    ∙ ap (λ (es : List (List ℕ × OwnSaid)). kept_in nothing_said (lookup (is_same c.args.session.now) es)) c.self.view_is
