use Rattle.std.proofs.Common.{◌∙◌, option_copied, sym, ap}
use Rattle.std.specs.Map.{lookup}
use Rattle.cmi5_running_sessions.specs.Maps.{TextMap, UnitsByRegistration, is_empty_slot, is_nothing_reached, unit_at}
use Rattle.cmi5_running_sessions.specs.Kept.{is_same}
use Rattle.cmi5_running_sessions.specs.declared.units.Reached.{Reached}
use Rattle.cmi5_running_sessions.proofs.Altering.{listed}
use Rattle.cmi5_running_sessions.proofs.registrations.ReachedByRegistration.is_empty_at.Goals as goal

pub returns-in-Some : goal.returns-in-Some
returns-in-Some c =
    let found = ap listed (sym (ap option_copied c.in-Some.is) ∙ c.get.ensures.value) in
    c.is_empty_at.ensures ∙ (ap (λ (us : TextMap Reached). is_empty_slot is_nothing_reached (lookup (is_same c.args.activity.now) us)) found
    ∙ ap (λ (es : UnitsByRegistration). is_empty_slot is_nothing_reached (unit_at c.args.registration.now c.args.activity.now es)) c.self.view_is)

pub returns-in-None : goal.returns-in-None
returns-in-None c =
    let found = ap listed (sym (ap option_copied c.in-None.is) ∙ c.get.ensures.value) in
    ap (λ (us : TextMap Reached). is_empty_slot is_nothing_reached (lookup (is_same c.args.activity.now) us)) found
    ∙ ap (λ (es : UnitsByRegistration). is_empty_slot is_nothing_reached (unit_at c.args.registration.now c.args.activity.now es)) c.self.view_is
