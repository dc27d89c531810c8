use Rattle.std.proofs.Common.{◌≡◌, ◌∙◌, List, map}
use Rattle.std.proofs.lemmas.Result.{IfOk-weaker}
use Rattle.cmi5_verdict.specs.Nodes.{SeenEnrolment, deeper_first, owed, indices}
use Rattle.cmi5_verdict.specs.Said.{said_in}
use Rattle.cmi5_verdict.proofs.Whole.{owed_told}
use Rattle.cmi5_verdict.proofs.owing.owed_by_said.Goals as goal
use Rattle.cmi5_session.specs.XapiStatementStored.{StoredStatement}

pub returns : goal.returns
returns c =
    let nodes = c.args.nodes.now in
    let said = c.args.said.now in
    IfOk-weaker c.deeper_first.result
    (λ told. told.items ≡ deeper_first nodes c.as_slice-2.result.now)
    (λ told. (e : SeenEnrolment) → (all : List StoredStatement) → e.nodes ≡ nodes → said ≡ map (said_in e all) (indices nodes) → told.items ≡ owed e all)
    (λ told is. λ e all same are. is ∙ owed_told e all nodes said c.as_slice.result.now c.as_slice-2.result.now same are
    (c.as_slice.ensures.value ∙ c.in_ok-satisfied.ensures) (c.as_slice-2.ensures.value ∙ c.in_ok-found.ensures))
    c.deeper_first.ensures
