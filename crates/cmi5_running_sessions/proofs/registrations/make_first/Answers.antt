use Rattle.std.proofs.Common.{◌∙◌, [], Some, inl, is_some, refl, sym, ap}
use Rattle.cmi5_running_sessions.specs.Maps.{UnitsByRegistration, unit_at}
use Rattle.std.specs.Map.{lookup}
use Rattle.cmi5_running_sessions.specs.Kept.{is_same}
use Rattle.cmi5_running_sessions.proofs.Altering.{added_filled, here, same_key, unit_made}
use Rattle.cmi5_running_sessions.proofs.registrations.make_first.Goals as goal

pub returns-in_err-units-clause-made : goal.returns-in_err-units-clause-made
returns-in_err-units-clause-made c = λ r a. inl refl

pub returns-in_err-before-clause-made : goal.returns-in_err-before-clause-made
returns-in_err-before-clause-made c = λ r a. inl (ap (λ (es : UnitsByRegistration). unit_at r a es) c.in_err-before.ensures.err)

pub returns-in_err-units-clause-filled : goal.returns-in_err-units-clause-filled
returns-in_err-units-clause-filled c = λ r has. inl has

pub returns-in_err-before-clause-filled : goal.returns-in_err-before-clause-filled
returns-in_err-before-clause-filled c = λ r has. inl (sym (ap (λ (es : UnitsByRegistration). is_some (lookup (is_same r) es)) c.in_err-before.ensures.err) ∙ has)

pub returns-clause-made : goal.returns-clause-made
returns-clause-made c =
    unit_made c.args.registration c.args.activity.now [] c.in_ok-units.units (Some c.in_ok-units.units) c.args.map.now.entries c.args.map.now.entries c.insert.new.self.entries refl (sym c.requires) refl
    c.in_ok-before.ensures.updates.0 c.in_ok-units.ensures.made

pub returns-clause-filled : goal.returns-clause-filled
returns-clause-filled c =
    added_filled c.args.registration c.args.activity.now [] c.in_ok-units.units (Some c.in_ok-units.units) c.args.map.now.entries c.args.map.now.entries c.insert.new.self.entries refl (sym c.requires) refl
    c.in_ok-before.ensures.updates.0 c.args.activity.now c.in_ok-units.ensures.there

pub returns-clause-there : goal.returns-clause-there
returns-clause-there c =
    ap is_some (here c.args.registration c.args.activity.now [] c.in_ok-units.units (Some c.in_ok-units.units) c.args.map.now.entries c.args.map.now.entries c.insert.new.self.entries refl (sym c.requires) refl
    c.in_ok-before.ensures.updates.0 c.args.registration c.args.activity.now (same_key c.args.registration c.args.registration refl))
    ∙ c.in_ok-units.ensures.there
