use Rattle.std.proofs.Common.{◌++◌, [], ◌∷◌, subst}
use Rattle.cmi5_running_verdicts.specs.Tallies.{AreTallies}
use Rattle.cmi5_verdict.specs.Cmi5SessionMarked.{mark}
use Rattle.cmi5_verdict.specs.Nodes.{seen}
use Rattle.cmi5_verdict.specs.XapiStatementStored.{StoredStatement}
use Rattle.cmi5_running_verdicts.proofs.running.count_whole.Goals as goal

pub returns-clause-counted : goal.returns-clause-counted
returns-clause-counted c = λ those few are.
    subst (λ (s : StoredStatement). AreTallies (seen c.args.enrolment.now) (those ++ mark s c.args.voided ∷ []) c.count.new.tallies) c.in_ok-statement.ensures
    (c.count.ensures.counted those few are)
