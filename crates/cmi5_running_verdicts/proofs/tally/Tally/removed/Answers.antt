use Rattle.std.proofs.Common.{refl}
use Rattle.cmi5_running_verdicts.specs.Changes.{removed}
use Rattle.cmi5_running_verdicts.proofs.Parts.{same_tally}
use Rattle.cmi5_running_verdicts.proofs.tally.Tally.removed.Goals as goal

pub returns : goal.returns
unfolding removed
returns c = same_tally _ _ _ c.args.self.satisfied _ _ _ c.args.self.satisfied c.args.self.unmet c.one_less.ensures c.one_less-2.ensures c.one_less-3.ensures refl
