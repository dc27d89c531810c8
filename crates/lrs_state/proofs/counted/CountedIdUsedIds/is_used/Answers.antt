use Rattle.std.proofs.Common.{◌∙◌}
use Rattle.lrs_state.proofs.Counting.{used_told}
use Rattle.lrs_state.proofs.counted.CountedIdUsedIds.is_used.Goals as goal

pub returns : goal.returns
returns g c = c.contains.ensures ∙ used_told g.T.Keyed.key c.args.id.now c.args.self.now.held
