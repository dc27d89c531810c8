use Rattle.std.proofs.Common.{length}
use Rattle.std.proofs.lemmas.Result.{on_ok_weaker}
use Rattle.cmi5_verdict.specs.Nodes.{seen}
use Rattle.cmi5_running_verdicts.proofs.Visits.{stand_for_all}
use Rattle.cmi5_running_verdicts.proofs.running.count_registered.Goals as goal

pub returns-clause-counted : goal.returns-clause-counted
returns-clause-counted c =
    on_ok_weaker c.count_each.result
    (stand_for_all (seen c.args.enrolment.now) c.args.statements.now.held (length c.args.statements.now.coming) c.posting-positions.result.now c.count_each.new.tallies c.posting-positions.ensures)
    c.count_each.ensures.counted
