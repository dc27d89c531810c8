use Rattle.std.proofs.Common.{ℕ, Option, None, ap}
use Rattle.lrs_made.specs.LrsHistoryWhose.{known_as}
use Rattle.lrs_refusals.proofs.whose.session_with.Goals as goal

pub returns-in-Some : goal.returns-in-Some
returns-in-Some c = ap (λ (launch : Option ℕ). known_as None launch) c.in-Some.ensures

pub returns-in-None : goal.returns-in-None
returns-in-None c = ap (λ (launch : Option ℕ). known_as None launch) c.in-None.ensures
