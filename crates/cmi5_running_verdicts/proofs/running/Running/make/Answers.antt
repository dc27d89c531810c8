use Rattle.std.proofs.Common.{Some, ap, arith}
use Rattle.cmi5_running_verdicts.proofs.running.Running.make.Goals as goal

pub returns-clause-ready : goal.returns-clause-ready
returns-clause-ready c = record {
  tallies = c.in_ok-made.made.items;
  coming = ap Some c.of.ensures;
  are = c.in_ok-made.ensures;
  room = omega (arith, c.in_ok-reserve.ensures.ok);
}
