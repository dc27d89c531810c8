use Rattle.std.proofs.Common.{ℕ, List, arith, subst}
use Rattle.cmi5_running_sessions.specs.Maps.{MakesAt}
use Rattle.cmi5_running_sessions.specs.Kept.{is_same, nothing_reached}
use Rattle.cmi5_running_sessions.specs.declared.units.Reached.{Reached}
use Rattle.cmi5_running_sessions.proofs.units.Units.make.Goals as goal

pub invariant_of-self : goal.invariant_of-self
invariant_of-self c =
    let longer = c.make_at.ensures.longer in
    let some = c.self.invariant in
    omega arith

pub returns-clause-made : goal.returns-clause-made
returns-clause-made c =
    subst (λ (es : List (List ℕ × Reached)). MakesAt nothing_reached (λ k. is_same c.args.activity.now k) es c.make_at.new.map.entries) c.self.view_is c.make_at.ensures.made
