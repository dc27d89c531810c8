use Rattle.std.proofs.Common.{◌≡◌, ℕ, List, None, rules}
use Rattle.cmi5_running_sessions.specs.Maps.{is_nothing_reached, is_same_unit, taken_back}
use Rattle.cmi5_running_sessions.specs.Room.{needs_unit}
use Rattle.cmi5_running_sessions.proofs.Altering.{units_changed_alike, units_unchanged}
use Rattle.cmi5_running_sessions.proofs.Counting.{of_told, of_untold}
use Rattle.cmi5_running_sessions.proofs.registrations.ReachedByRegistration.release.Goals as goal

pub returns-in-Some-clause-changed : goal.returns-in-Some-clause-changed
returns-in-Some-clause-changed c =
    let needs = λ (r : List ℕ) (a : List ℕ). needs_unit r a c.args.statement.now in
    let same = of_told c.unit_told.result needs c.in-Some.unit c.in-Some.is c.unit_told.ensures in
    units_changed_alike (is_same_unit c.in-Some.unit.registration c.in-Some.unit.activity.now) needs (taken_back is_nothing_reached) c.args.self.now c.take_back.new.self same
    c.take_back.ensures.changed

pub returns-in_default-clause-changed : goal.returns-in_default-clause-changed
returns-in_default-clause-changed c =
    let needs = λ (r : List ℕ) (a : List ℕ). needs_unit r a c.args.statement.now in
    let none : c.unit_told.result ≡ None = search rules in
    units_unchanged needs (taken_back is_nothing_reached) c.args.self.now (of_untold c.unit_told.result needs none c.unit_told.ensures)
