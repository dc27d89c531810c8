use Rattle.std.proofs.Common.{◌∙◌}
use Rattle.std.proofs.lemmas.Result.{IfOk-weaker}
use Rattle.cmi5_verdict.specs.Nodes.{seen}
use Rattle.cmi5_verdict.specs.Statements.{all_of}
use Rattle.cmi5_verdict.proofs.Whole.{verdicts_by}
use Rattle.cmi5_verdict.proofs.marking.verdicts.Goals as goal

pub returns : goal.returns
returns c =
    IfOk-weaker c.satisfied_each.result _ _
    (λ satisfied is. is ∙ verdicts_by (seen c.args.enrolment.now) (all_of c.args.statements.now) c.as_slice.result.now (c.as_slice.ensures.value ∙ c.in_ok-said.ensures))
    c.satisfied_each.ensures
