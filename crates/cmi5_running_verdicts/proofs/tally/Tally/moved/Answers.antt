use Rattle.std.proofs.Common.{ap}
use Rattle.cmi5_running_verdicts.specs.Changes.{with_unmet}
use Rattle.cmi5_running_verdicts.proofs.tally.Tally.moved.Goals as goal

pub returns : goal.returns
returns c = ap (λ n. with_unmet n c.args.self) c.next_unmet.ensures
