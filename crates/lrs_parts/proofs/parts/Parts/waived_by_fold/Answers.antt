use Rattle.std.proofs.Common.{◌≡◌, IfOk, List, subst}
use Rattle.cmi5_running_sessions.specs.Cmi5LaunchNames.{waived}
use Rattle.cmi5_running_verdicts.specs.Cmi5VerdictNodes.{activity_of_node, seen}
use Rattle.cmi5_running_verdicts.specs.Cmi5VerdictUnits.{stands}
use Rattle.xapi_statement.specs.Stored.{StoredStatement}
use Rattle.lrs_parts.proofs.parts.Parts.waived_by_fold.Goals as goal

pub returns : goal.returns
returns c =
    let e = seen c.args.enrolment.now in
    subst (λ (ss : List StoredStatement). IfOk c.waived.result (λ told. told ≡ stands ss e.registration (activity_of_node e c.args.index) waived)) c.held_alone.ensures c.waived.ensures
