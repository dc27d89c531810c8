use Rattle.cmi5_verdict.specs.Said.{either}
use Rattle.cmi5_verdict.proofs.Spoken.{same_said}
use Rattle.cmi5_verdict.proofs.said.Said.joined.Goals as goal

pub returns : goal.returns
unfolding either
returns c = same_said _ _ _ _ _ _ _ _ c.one_holds.ensures c.one_holds-2.ensures c.one_holds-3.ensures c.one_holds-4.ensures
