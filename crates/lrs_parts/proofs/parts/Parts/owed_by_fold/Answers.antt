use Rattle.std.proofs.Common.{◌≡◌, IfOk, List, subst}
use Rattle.cmi5_running_verdicts.specs.Cmi5VerdictNodes.{owed, seen}
use Rattle.xapi_statement.specs.Stored.{StoredStatement}
use Rattle.lrs_parts.proofs.parts.Parts.owed_by_fold.Goals as goal

pub returns : goal.returns
returns c =
    subst (λ (ss : List StoredStatement). IfOk c.owed.result (λ indices. indices.items ≡ owed (seen c.args.enrolment.now) ss)) c.behind_held.ensures.all c.owed.ensures
