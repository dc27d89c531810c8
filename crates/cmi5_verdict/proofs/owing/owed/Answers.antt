use Rattle.std.proofs.Common.{◌≡◌, ◌∙◌, List, map, refl}
use Rattle.std.proofs.lemmas.Result.{IfOk-weaker}
use Rattle.cmi5_verdict.specs.Nodes.{SeenEnrolment, owed, indices, seen}
use Rattle.cmi5_verdict.specs.Said.{said_in}
use Rattle.cmi5_verdict.specs.Statements.{all_of}
use Rattle.cmi5_verdict.proofs.owing.owed.Goals as goal
use Rattle.cmi5_session.specs.XapiStatementStored.{StoredStatement}

pub returns : goal.returns
returns c =
    let nodes = c.args.enrolment.now.nodes.now in
    IfOk-weaker c.owed_by_said.result
    (λ told. (e : SeenEnrolment) → (all : List StoredStatement) → e.nodes ≡ nodes → c.as_slice.result.now ≡ map (said_in e all) (indices nodes) → told.items ≡ owed e all)
    (λ told. told.items ≡ owed (seen c.args.enrolment.now) (all_of c.args.statements.now))
    (λ told known. known (seen c.args.enrolment.now) (all_of c.args.statements.now) refl (c.as_slice.ensures.value ∙ c.in_ok-said.ensures))
    c.owed_by_said.ensures
