use Rattle.std.proofs.Common.{sym, ◌∙◌, arith}
use Rattle.std.proofs.lemmas.Bool.{le-leb}
use Rattle.xapi_search.proofs.times.end_behind.Goals as goal

pub returns-in-Some-clause-late : goal.returns-in-Some-clause-late
returns-in-Some-clause-late c = λ k s lt le at. sym (c.in-Some.ensures.1 k s lt at) ∙ le-leb c.in-Some.end k le

pub returns-in-Some-clause-within : goal.returns-in-Some-clause-within
returns-in-Some-clause-within c = c.in-Some.ensures.0

pub returns-in-None-clause-late : goal.returns-in-None-clause-late
returns-in-None-clause-late c = λ k s lt le at. absurd (omega arith)
