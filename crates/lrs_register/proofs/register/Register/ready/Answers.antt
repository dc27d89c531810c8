use Rattle.std.proofs.Common.{sym, subst}
use Rattle.std.specs.BTreeMap.{is_at}
use Rattle.lrs_register.specs.Slots.{AddsOnly}
use Rattle.lrs_register.proofs.register.Register.ready.Goals as goal

pub returns-clause-made : goal.returns-clause-made
returns-clause-made g c = rw (sym c.self.view_is) (record {
  same = c.make.ensures.same;
  only = subst (λ k. AddsOnly g.K.Ord.cmp (λ q. is_at (g.K.Ord.cmp k) q) c.self.inside.slots c.make.new.self) c.in_ok-key_copy.ensures c.make.ensures.only;
})
