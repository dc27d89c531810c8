use Rattle.std.proofs.Common.{◌≡◌, ◌∙◌, sym, subst, true}
use Rattle.std.specs.BTreeMap.{is_at}
use Rattle.lrs_register.specs.Slots.{is_empty_at, TakesSlotsBack}
use Rattle.lrs_register.proofs.Ahead.{left_in, taken_out}
use Rattle.lrs_register.proofs.slots.Slots.release.Goals as goal

pub returns-then-is_empty_at : goal.returns-then-is_empty_at
returns-then-is_empty_at g c =
    let new = c.remove.new.self.entries in
    subst (λ es. TakesSlotsBack g.K.Ord.cmp (λ q. is_at (g.K.Ord.cmp c.args.key.now) q) es new) c.self.view_is
    (taken_out g.K.Ord.cmp g.met.K.Ord.total c.args.key.now c.self.inside.map.entries new
    (subst (λ es. is_empty_at g.K.Ord.cmp es c.args.key.now ≡ true) (sym c.self.view_is) (sym c.is_empty_at.ensures ∙ c.if-is_empty_at.true)) c.remove.ensures.updates.0)

pub returns-else-is_empty_at : goal.returns-else-is_empty_at
returns-else-is_empty_at g c = left_in g.K.Ord.cmp g.met.K.Ord.total c.args.key.now c.args.self.now (sym c.is_empty_at.ensures ∙ c.if-is_empty_at.false)
