use Rattle.std.proofs.Common.{◌≡◌, ◌∙◌, ◌+◌, ap, arith}
use Rattle.cmi5_verdict.specs.Nodes.{seen}
use Rattle.cmi5_verdict.specs.Said.{either, said_among, said_of}
use Rattle.cmi5_verdict.specs.Statements.{all_of}
use Rattle.cmi5_verdict.proofs.said.add_new.Goals as goal

pub returns-clause-added : goal.returns-clause-added
returns-clause-added c = λ k lt small.
    let here : 0 + k ≡ k = omega arith in
    c.note_each.ensures.noted k lt (omega arith)
    ∙ ap (λ p. either (said_of c.args.said.now k) (said_among (seen c.args.enrolment.now) (all_of c.args.statements.now) p c.args.statements.now.new.now)) here
