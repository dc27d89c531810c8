use Rattle.xapi_alike.proofs.Laws.{same_is_sameness}
use Rattle.xapi_alike.proofs.statements.same_received.Goals as goal

pub returns-clause-equivalence : goal.returns-clause-equivalence
returns-clause-equivalence c = same_is_sameness
