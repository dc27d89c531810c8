use Rattle.std.proofs.Common.{◌∙◌, sym, ap}
use Rattle.cmi5_running_sessions.specs.Maps.{kept_in}
use Rattle.cmi5_running_sessions.specs.Kept.{nothing_reached}
use Rattle.cmi5_running_sessions.proofs.registrations.ReachedByRegistration.get.Goals as goal

pub returns-in-Some : goal.returns-in-Some
returns-in-Some c = ap (λ o. kept_in nothing_reached o) (sym c.in-Some.is ∙ c.find.ensures)

pub returns-in-None : goal.returns-in-None
returns-in-None c = c.nothing.ensures ∙ ap (λ o. kept_in nothing_reached o) (sym c.in-None.is ∙ c.find.ensures)
