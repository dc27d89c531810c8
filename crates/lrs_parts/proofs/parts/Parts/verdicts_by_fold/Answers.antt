use Rattle.std.proofs.Common.{◌≡◌, IfOk, List, subst}
use Rattle.cmi5_running_verdicts.specs.Cmi5VerdictNodes.{seen, verdicts}
use Rattle.xapi_statement.specs.Stored.{StoredStatement}
use Rattle.lrs_parts.proofs.parts.Parts.verdicts_by_fold.Goals as goal

pub returns : goal.returns
returns c =
    subst (λ (ss : List StoredStatement). IfOk c.verdicts.result (λ told. told.items ≡ verdicts (seen c.args.enrolment.now) ss)) c.held_alone.ensures c.verdicts.ensures
