use Rattle.std.proofs.Common.{◌∙◌, refl, arith}
use Rattle.cmi5_verdict.specs.Nodes.{seen}
use Rattle.cmi5_running_verdicts.proofs.Visits.{counting_all, counting_next, counting_none}
use Rattle.cmi5_running_verdicts.proofs.running.count_each.Goals as goal

pub loop-nth-init : goal.loop-nth-init
loop-nth-init c = record {
  long = refl;
  counted = counting_none (seen c.args.enrolment.now) c.args.statements.now.held c.args.positions.now c.args.tallies.now c.requires.fresh;
}

pub loop-nth-preserved : goal.loop-nth-preserved
loop-nth-preserved c =
    let at = c.loop-nth in
    record {
      long = c.count_nth.ensures.long ∙ at.invariant.long;
      counted = counting_next (seen c.args.enrolment.now) c.args.statements.now.held c.args.positions.now at.nth at.tallies c.count_nth.new.tallies (omega arith) (omega arith)
          c.in_ok-count_nth.ensures.counted at.invariant.counted;
    }

pub returns-clause-counted : goal.returns-clause-counted
returns-clause-counted c =
    let at = c.loop-nth in
    counting_all (seen c.args.enrolment.now) c.args.statements.now.held c.args.positions.now at.nth at.tallies (omega arith) at.invariant.counted
