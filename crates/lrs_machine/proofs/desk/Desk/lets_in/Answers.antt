use Rattle.std.proofs.Common.{◌≡◌, ◌∙◌, Bool, true, false, not, Option, Some, None, ap, refl, sym}
use Rattle.std.specs.Prelude.{is_none, is_some}
use Rattle.lrs_fold.specs.LrsHistoryRefusals.{barred}
use Rattle.lrs_fold.specs.LrsHistoryWhose.{who_is}
use Rattle.lrs_machine.proofs.desk.Desk.lets_in.Goals as goal

by_none : {A : Type 0} (b : Bool) (o : Option A) → is_some o ≡ not b → b ≡ is_none o
by_none true None e = refl
by_none true (Some a) e = cc e
by_none false None e = cc e
by_none false (Some a) e = refl

pub returns : goal.returns
returns g c =
    rw (sym c.self.view_is)
    (by_none c.is_none.result c.barred.result c.is_none.ensures
    ∙ ap is_none (c.barred.ensures ∙ ap (λ by. barred c.args.area by) (c.who_is.ensures ∙ ap (λ st. who_is st c.args.caller.now) c.self.invariant.0.folded)))
