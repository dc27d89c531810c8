use Rattle.std.proofs.Common.{◌∙◌, nat_lt, [], None, length, refl, sym, ap, is_some}
use Rattle.std.proofs.lemmas.Bool.{false≢true}
use Rattle.cmi5_running_sessions.specs.Maps.{UnitsByRegistration, unit_at}
use Rattle.cmi5_running_sessions.specs.Kept.{units_of}
use Rattle.cmi5_running_sessions.proofs.Altering.{kept_before, only_one, stays_filled, unit_changed, unit_kept}
use Rattle.cmi5_running_sessions.proofs.registrations.ReachedByRegistration.take_out.Goals as goal

pub take_from-requires : goal.take_from-requires
take_from-requires c = sym c.has_others.ensures ∙ c.if-has_others.true

pub returns-else-has_others-clause-changed : goal.returns-else-has_others-clause-changed
returns-else-has_others-clause-changed c =
    let key = c.args.registration.now in
    let us = units_of key c.self.inside.map.entries in
    let few = ap (λ (es : UnitsByRegistration). nat_lt 1 (length (units_of key es))) c.self.view_is ∙ (sym c.has_others.ensures ∙ c.if-has_others.false) in
    let there = ap (λ (es : UnitsByRegistration). is_some (unit_at key c.args.activity.now es)) c.self.view_is ∙ c.requires in
    unit_changed key c.args.activity.now us [] None c.self.inside.map.entries c.args.self.now c.remove-units.new.self.entries c.self.view_is refl refl c.remove-units.ensures.updates.0
    (λ slot. None) (only_one c.args.activity.now us few there)

pub returns-else-has_others-clause-fewer : goal.returns-else-has_others-clause-fewer
returns-else-has_others-clause-fewer c =
    let key = c.args.registration.now in
    let there = ap (λ (es : UnitsByRegistration). is_some (unit_at key c.args.activity.now es)) c.self.view_is ∙ c.requires in
    kept_before key c.args.activity.now (units_of key c.self.inside.map.entries) [] None c.self.inside.map.entries c.args.self.now c.remove-units.new.self.entries c.self.view_is refl refl
    c.remove-units.ensures.updates.0 (unit_kept key c.args.activity.now c.self.inside.map.entries there)

pub returns-else-has_others-clause-filled : goal.returns-else-has_others-clause-filled
returns-else-has_others-clause-filled c =
    let key = c.args.registration.now in
    stays_filled key c.args.activity.now (units_of key c.self.inside.map.entries) [] None c.self.inside.map.entries c.args.self.now c.remove-units.new.self.entries c.self.view_is refl refl
    c.remove-units.ensures.updates.0 (λ kept. absurd (false≢true kept))
