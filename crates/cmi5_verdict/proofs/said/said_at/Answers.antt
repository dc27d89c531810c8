use Rattle.std.proofs.Common.{◌≡◌, ◌∙◌, ◌+◌, ap, arith}
use Rattle.cmi5_verdict.specs.Nodes.{seen}
use Rattle.cmi5_verdict.specs.Said.{either, said_in}
use Rattle.cmi5_verdict.specs.Statements.{all_of}
use Rattle.cmi5_verdict.specs.declared.said.Said.{Said}
use Rattle.cmi5_verdict.proofs.Spoken.{unsaid_either}
use Rattle.cmi5_verdict.proofs.said.said_at.Goals as goal

-- the first of one node is that node
pub returns : goal.returns
returns c =
    let told = said_in (seen c.args.enrolment.now) (all_of c.args.statements.now) in
    let here : c.args.index + 0 ≡ c.args.index = omega arith in
    c.said_of.ensures
    ∙ (c.in_ok-note_all.ensures.noted 0 (omega arith) (omega arith)
    ∙ (ap (λ (s : Said). either s (told (c.args.index + 0))) c.nothing.ensures
    ∙ (unsaid_either (told (c.args.index + 0)) ∙ ap told here)))
