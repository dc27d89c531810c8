use Rattle.std.proofs.Common.{◌∙◌, option_copied, sym, ap}
use Rattle.std.specs.Map.{lookup}
use Rattle.cmi5_running_sessions.specs.Maps.{TextMap, UnitsByRegistration, unit_at}
use Rattle.cmi5_running_sessions.specs.Kept.{is_same}
use Rattle.cmi5_running_sessions.specs.declared.units.Reached.{Reached}
use Rattle.cmi5_running_sessions.proofs.Altering.{listed}
use Rattle.cmi5_running_sessions.proofs.registrations.ReachedByRegistration.find.Goals as goal

pub returns-in-Some : goal.returns-in-Some
returns-in-Some c =
    let found = ap listed (sym (ap option_copied c.in-Some.is) ∙ c.get.ensures.value) in
    c.get-in-Some.ensures ∙ (ap (λ (us : TextMap Reached). lookup (is_same c.args.activity.now) us) found
    ∙ ap (λ (es : UnitsByRegistration). unit_at c.args.registration.now c.args.activity.now es) c.self.view_is)

pub returns-in-None : goal.returns-in-None
returns-in-None c =
    let found = ap listed (sym (ap option_copied c.in-None.is) ∙ c.get.ensures.value) in
    ap (λ (us : TextMap Reached). lookup (is_same c.args.activity.now) us) found
    ∙ ap (λ (es : UnitsByRegistration). unit_at c.args.registration.now c.args.activity.now es) c.self.view_is
