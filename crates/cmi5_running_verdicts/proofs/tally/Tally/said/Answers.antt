use Rattle.std.proofs.Common.{refl}
use Rattle.cmi5_verdict.proofs.Spoken.{same_said}
use Rattle.cmi5_running_verdicts.proofs.tally.Tally.said.Goals as goal

pub returns : goal.returns
returns c = same_said _ _ _ _ _ _ _ _ c.is_positive.ensures c.is_positive-2.ensures c.is_positive-3.ensures refl
