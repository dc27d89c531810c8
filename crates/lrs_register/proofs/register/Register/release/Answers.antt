use Rattle.std.proofs.Common.{◌∙◌, sym, subst}
use Rattle.std.specs.BTreeMap.{is_at}
use Rattle.lrs_register.specs.Slots.{TakesSlotsBack}
use Rattle.lrs_register.proofs.register.Register.release.Goals as goal

pub invariant_of-self : goal.invariant_of-self
invariant_of-self g c = record { found = λ k. c.release.ensures.same k ∙ c.self.invariant.found k }

pub returns-clause-back : goal.returns-clause-back
returns-clause-back g c =
    rw (sym c.self.view_is) (subst (λ k. TakesSlotsBack g.K.Ord.cmp (λ q. is_at (g.K.Ord.cmp k) q) c.self.inside.slots c.release.new.self) c.key.ensures c.release.ensures)
