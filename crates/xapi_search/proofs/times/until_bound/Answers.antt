use Rattle.std.proofs.Common.{arith}
use Rattle.xapi_search.proofs.Cuts.{too_late}
use Rattle.xapi_search.proofs.times.until_bound.Goals as goal

pub returns-in-Some-clause-late : goal.returns-in-Some-clause-late
returns-in-Some-clause-late c = λ k s lt le at. too_late c.args.query.now s c.in-Some.until c.in-Some.is (c.end_behind.ensures.late k s lt le at)

pub returns-in-None-clause-late : goal.returns-in-None-clause-late
returns-in-None-clause-late c = λ k s lt le at. absurd (omega arith)
