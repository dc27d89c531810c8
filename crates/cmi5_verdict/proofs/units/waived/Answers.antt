use Rattle.std.proofs.Common.{ap}
use Rattle.cmi5_verdict.specs.Said.{said_among}
use Rattle.cmi5_verdict.specs.declared.said.Said.{Said}
use Rattle.cmi5_verdict.proofs.units.waived.Goals as goal

pub returns : goal.returns
unfolding said_among
returns c = ap (λ (s : Said). s.waived) c.in_ok-said.ensures
