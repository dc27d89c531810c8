use Rattle.cmi5_running_verdicts.specs.Changes.{added}
use Rattle.cmi5_running_verdicts.proofs.Parts.{same_tally}
use Rattle.cmi5_running_verdicts.proofs.tally.Tally.added.Goals as goal

pub returns : goal.returns
unfolding added
returns c = same_tally _ _ _ _ _ _ _ _ c.args.self.unmet c.one_more.ensures c.one_more-2.ensures c.one_more-3.ensures c.one_holds.ensures
