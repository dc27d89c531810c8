use Rattle.std.proofs.Common.{arith}
use Rattle.xapi_search.proofs.Cuts.{too_early}
use Rattle.xapi_search.proofs.times.since_bound.Goals as goal

pub returns-in-Some : goal.returns-in-Some
returns-in-Some c = λ k s lt at. too_early c.args.query.now s c.in-Some.since c.in-Some.is (c.first_after.ensures k s lt at)

pub returns-in-None : goal.returns-in-None
returns-in-None c = λ k s lt at. absurd (omega arith)
