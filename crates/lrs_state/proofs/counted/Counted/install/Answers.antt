use Rattle.std.specs.BTreeMap.{is_at}
use Rattle.lrs_state.proofs.Counting.{still_few}
use Rattle.lrs_state.proofs.counted.Counted.install.Goals as goal

pub invariant_of-self : goal.invariant_of-self
invariant_of-self g c =
    still_few (λ x item. is_at (g.K.Ord.cmp (g.T.Keyed.key x)) (g.T.Keyed.key item)) c.self.inside.list c.args.self.now c.install_change.new.self.held c.args.change c.self.view_is c.install_change.ensures c.requires.few
