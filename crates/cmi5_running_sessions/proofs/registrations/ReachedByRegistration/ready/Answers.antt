use Rattle.std.proofs.Common.{◌≡◌, ◌∙◌, true, ℕ, List, is_some, inl, refl, sym}
use Rattle.std.proofs.lemmas.Bool.{false≢true}
use Rattle.std.proofs.lemmas.Result.{on_ok_weaker}
use Rattle.cmi5_running_sessions.specs.Maps.{is_same_unit, unit_at}
use Rattle.cmi5_running_sessions.specs.Room.{needs_unit}
use Rattle.cmi5_running_sessions.proofs.Altering.{units_made_alike}
use Rattle.cmi5_running_sessions.proofs.Counting.{of_told, of_untold, unit_there}
use Rattle.cmi5_running_sessions.proofs.registrations.ReachedByRegistration.ready.Goals as goal

pub returns-in-Some-clause-made : goal.returns-in-Some-clause-made
returns-in-Some-clause-made c =
    let needs = λ (r : List ℕ) (a : List ℕ). needs_unit r a c.args.statement.now in
    let same = of_told c.unit_told.result needs c.in-Some.unit c.in-Some.is c.unit_told.ensures in
    units_made_alike (is_same_unit c.in-Some.unit.registration c.in-Some.unit.activity.now) needs c.args.self.now c.make.new.self same c.make.ensures.made

pub returns-in-Some-clause-there : goal.returns-in-Some-clause-there
returns-in-Some-clause-there c =
    let needs = λ (r : List ℕ) (a : List ℕ). needs_unit r a c.args.statement.now in
    let same = of_told c.unit_told.result needs c.in-Some.unit c.in-Some.is c.unit_told.ensures in
    on_ok_weaker c.make.result
    (λ (there : is_some (unit_at c.in-Some.unit.registration c.in-Some.unit.activity.now c.make.new.self) ≡ true). unit_there c.in-Some.unit.registration c.in-Some.unit.activity.now needs c.make.new.self same there)
    c.make.ensures.there

pub returns-in-None-clause-made : goal.returns-in-None-clause-made
returns-in-None-clause-made c = λ r a. inl refl

pub returns-in-None-clause-there : goal.returns-in-None-clause-there
returns-in-None-clause-there c = λ r a needed.
    absurd (false≢true (sym (of_untold c.unit_told.result (λ r a. needs_unit r a c.args.statement.now) c.in-None.is c.unit_told.ensures r a) ∙ needed))

pub returns-in-None-clause-filled : goal.returns-in-None-clause-filled
returns-in-None-clause-filled c = λ r has. inl has
