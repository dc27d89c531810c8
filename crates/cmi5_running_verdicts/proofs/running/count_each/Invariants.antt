use Rattle.std.proofs.Common.{◌≡◌, length}
use Rattle.cmi5_verdict.specs.Nodes.{seen}
use Rattle.cmi5_running_verdicts.proofs.Visits.{Counting}
use Rattle.cmi5_running_verdicts.proofs.running.count_each.Given as goal

-- the tallies stand for those so far
abbrev pub invariant-loop-nth : goal.invariant-loop-nth
invariant-loop-nth l = record {
  long : length l.tallies ≡ length l.fn.tallies;
  counted : Counting (seen l.enrolment) l.statements.held l.positions l.nth l.tallies;
}
