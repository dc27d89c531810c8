use Rattle.std.proofs.Common.{ℕ, List, subst}
use Rattle.cmi5_running_sessions.specs.Maps.{MakesAt}
use Rattle.cmi5_running_sessions.specs.Kept.{is_same, nothing_reached}
use Rattle.cmi5_running_sessions.specs.declared.units.Reached.{Reached}
use Rattle.cmi5_running_sessions.proofs.Altering.{some_there}
use Rattle.cmi5_running_sessions.proofs.units.Units.of.Goals as goal

pub invariant_of-result : goal.invariant_of-result
invariant_of-result c = some_there (is_same c.args.activity.now) c.make_at.new.map.entries c.in_ok-make_at.ensures.there

pub returns-clause-made : goal.returns-clause-made
returns-clause-made c =
    subst (λ (es : List (List ℕ × Reached)). MakesAt nothing_reached (λ k. is_same c.args.activity.now k) es c.make_at.new.map.entries) c.new-map.ensures.empty c.make_at.ensures.made
