use Rattle.std.proofs.Common.{◌∙◌, sym}
use Rattle.cmi5_running_sessions.specs.Maps.{is_nothing_reached, taken_back, unit_at}
use Rattle.cmi5_running_sessions.proofs.Altering.{empty_there, left}
use Rattle.cmi5_running_sessions.proofs.Counting.{units_emptied, units_left}
use Rattle.cmi5_running_sessions.proofs.registrations.ReachedByRegistration.take_back.Goals as goal

pub take_out-requires : goal.take_out-requires
take_out-requires c =
    empty_there is_nothing_reached (unit_at c.args.registration.now c.args.activity.now c.args.self.now) (sym c.is_empty_at.ensures ∙ c.if-is_empty_at.true)

pub returns-then-is_empty_at-clause-changed : goal.returns-then-is_empty_at-clause-changed
returns-then-is_empty_at-clause-changed c =
    units_emptied c.args.registration.now c.args.activity.now c.args.self.now c.take_out.new.self (sym c.is_empty_at.ensures ∙ c.if-is_empty_at.true) c.take_out.ensures.changed

pub returns-else-is_empty_at-clause-changed : goal.returns-else-is_empty_at-clause-changed
returns-else-is_empty_at-clause-changed c =
    units_left c.args.registration.now c.args.activity.now (taken_back is_nothing_reached) c.args.self.now
    (left is_nothing_reached (unit_at c.args.registration.now c.args.activity.now c.args.self.now) (sym c.is_empty_at.ensures ∙ c.if-is_empty_at.false))
