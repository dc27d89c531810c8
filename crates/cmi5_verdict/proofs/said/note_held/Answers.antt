use Rattle.std.proofs.Common.{ℕ}
use Rattle.std.proofs.lemmas.Result.{on_ok_weaker}
use Rattle.cmi5_verdict.specs.Nodes.{seen}
use Rattle.cmi5_verdict.specs.Said.{said_among}
use Rattle.cmi5_verdict.specs.Statements.{all_of}
use Rattle.cmi5_verdict.proofs.Posted.{noted_as, said_under_key}
use Rattle.cmi5_verdict.proofs.said.note_held.Goals as goal
use Rattle.xapi_index.specs.Index.{statements_at}

pub returns-clause-noted : goal.returns-clause-noted
returns-clause-noted c =
    let e = seen c.args.enrolment.now in
    let all = all_of c.args.statements.now in
    let held = c.args.statements.now.held.now.held in
    let positions = c.posting-positions.result.now in
    on_ok_weaker c.note_positions.result
    (noted_as c.args.said.now c.note_positions.new.said c.args.first (λ (p : ℕ). said_among e all p (statements_at held positions)) (λ (p : ℕ). said_among e all p held)
    (λ p. said_under_key e all held p positions c.posting-positions.ensures.visible))
    c.note_positions.ensures.noted
