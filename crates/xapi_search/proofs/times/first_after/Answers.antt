use Rattle.std.proofs.Common.{sym, ◌∙◌, arith}
use Rattle.std.proofs.lemmas.Bool.{lt-leb}
use Rattle.xapi_search.proofs.times.first_after.Goals as goal

pub returns-in-Some : goal.returns-in-Some
returns-in-Some c = λ k s lt at.
    let within = c.in-Some.ensures.0 in
    sym (c.in-Some.ensures.1 k s (omega arith) at) ∙ lt-leb c.in-Some.first k lt

pub returns-in-None : goal.returns-in-None
returns-in-None c = λ k s lt at. absurd (omega arith)
