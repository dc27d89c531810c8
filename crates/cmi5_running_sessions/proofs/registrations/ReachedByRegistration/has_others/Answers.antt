use Rattle.std.proofs.Common.{◌∙◌, length, nat_lt, option_copied, sym, ap}
use Rattle.cmi5_running_sessions.specs.Maps.{TextMap, UnitsByRegistration}
use Rattle.cmi5_running_sessions.specs.Kept.{units_of}
use Rattle.cmi5_running_sessions.specs.declared.units.Reached.{Reached}
use Rattle.cmi5_running_sessions.proofs.Altering.{listed}
use Rattle.cmi5_running_sessions.proofs.registrations.ReachedByRegistration.has_others.Goals as goal

pub returns-in-Some : goal.returns-in-Some
returns-in-Some c =
    let found = ap listed (sym (ap option_copied c.in-Some.is) ∙ c.get.ensures.value) in
    c.has_others.ensures ∙ (ap (λ (us : TextMap Reached). nat_lt 1 (length us)) found
    ∙ ap (λ (es : UnitsByRegistration). nat_lt 1 (length (units_of c.args.registration.now es))) c.self.view_is)

pub returns-in-None : goal.returns-in-None
returns-in-None c =
    let found = ap listed (sym (ap option_copied c.in-None.is) ∙ c.get.ensures.value) in
    ap (λ (us : TextMap Reached). nat_lt 1 (length us)) found
    ∙ ap (λ (es : UnitsByRegistration). nat_lt 1 (length (units_of c.args.registration.now es))) c.self.view_is
