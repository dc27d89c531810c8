use Rattle.cmi5_verdict.specs.Said.{said_with}
use Rattle.cmi5_verdict.proofs.Spoken.{same_said}
use Rattle.cmi5_running_verdicts.proofs.counting.said_with.Goals as goal

pub returns : goal.returns
unfolding said_with
returns c = same_said _ _ _ _ _ _ _ _ c.says_still.ensures c.says_still-2.ensures c.says_still-3.ensures c.is_that_verb.ensures
