use Rattle.std.proofs.Common.{◌∙◌, option_map, sym}
use Rattle.lrs_json.specs.View.{view}
use Rattle.cmi5_running_sessions.specs.Maps.{reached_without, unit_at}
use Rattle.cmi5_running_sessions.proofs.Counting.{none_filled, units_left}
use Rattle.cmi5_running_sessions.proofs.registrations.ReachedByRegistration.void_at.Goals as goal

pub discount-requires : goal.discount-requires
discount-requires c = sym c.has_slot.ensures ∙ c.if-has_slot.true

pub returns-else-has_slot : goal.returns-else-has_slot
returns-else-has_slot c =
    units_left c.args.registration.now c.args.activity.now (option_map (reached_without (view c.args.statement.now))) c.args.self.now
    (none_filled (reached_without (view c.args.statement.now)) (unit_at c.args.registration.now c.args.activity.now c.args.self.now) (sym c.has_slot.ensures ∙ c.if-has_slot.false))
