use Rattle.std.proofs.Common.{◌∙◌, ℕ, List, ap, option_copied, sym}
use Rattle.std.specs.Map.{lookup}
use Rattle.cmi5_running_sessions.specs.Kept.{is_same}
use Rattle.cmi5_running_sessions.specs.declared.units.Reached.{Reached}
use Rattle.cmi5_running_sessions.proofs.units.Units.get.Goals as goal

pub returns-in-Some : goal.returns-in-Some
returns-in-Some c =
    sym (ap option_copied c.in-Some.is) ∙ (c.get.ensures.value ∙ ap (λ (es : List (List ℕ × Reached)). lookup (is_same c.args.activity.now) es) c.self.view_is)

pub returns-in-None : goal.returns-in-None
returns-in-None c =
    sym (ap option_copied c.in-None.is) ∙ (c.get.ensures.value ∙ ap (λ (es : List (List ℕ × Reached)). lookup (is_same c.args.activity.now) es) c.self.view_is)
