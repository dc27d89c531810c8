use Rattle.std.proofs.Common.{◌≡◌, ◌∙◌, ℕ, List, None, option_map, rules, subst, sym}
use Rattle.lrs_json.specs.View.{view}
use Rattle.lrs_json.specs.declared.tree.Tree.{Tree}
use Rattle.cmi5_running_sessions.specs.Maps.{ChangesUnits, is_same_unit, reached_behind}
use Rattle.cmi5_running_sessions.specs.Room.{needs_unit}
use Rattle.cmi5_running_sessions.proofs.Altering.{unit_itself, units_changed_alike, units_unchanged}
use Rattle.cmi5_running_sessions.proofs.Counting.{of_told, of_untold}
use Rattle.cmi5_running_sessions.proofs.registrations.ReachedByRegistration.install.Goals as goal

pub returns-in-Some : goal.returns-in-Some
returns-in-Some c =
    let needs = λ (r : List ℕ) (a : List ℕ). needs_unit r a c.args.statement.now in
    let same = of_told c.unit_told.result needs c.in-Some.unit c.in-Some.is c.unit_told.ensures in
    units_changed_alike (is_same_unit c.in-Some.unit.registration c.in-Some.unit.activity.now) needs (option_map (reached_behind (view c.args.statement.now.received))) c.args.self.now c.count.new.self same
    (subst (λ (t : Tree). ChangesUnits (is_same_unit c.in-Some.unit.registration c.in-Some.unit.activity.now) (option_map (reached_behind (view t))) c.args.self.now c.count.new.self) c.received.ensures c.count.ensures)

pub returns-in_default : goal.returns-in_default
returns-in_default c =
    let needs = λ (r : List ℕ) (a : List ℕ). needs_unit r a c.args.statement.now in
    let none : c.unit_told.result ≡ None = search rules in
    units_unchanged needs (option_map (reached_behind (view c.args.statement.now.received))) c.args.self.now (of_untold c.unit_told.result needs none c.unit_told.ensures)

pub count-requires : goal.count-requires
count-requires c =
    let needs = λ (r : List ℕ) (a : List ℕ). needs_unit r a c.args.statement.now in
    let same = of_told c.unit_told.result needs c.in-Some.unit c.in-Some.is c.unit_told.ensures in
    c.requires c.in-Some.unit.registration c.in-Some.unit.activity.now (sym (same c.in-Some.unit.registration c.in-Some.unit.activity.now) ∙ unit_itself c.in-Some.unit.registration c.in-Some.unit.activity.now)
