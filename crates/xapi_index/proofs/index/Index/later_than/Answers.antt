use Rattle.std.proofs.Common.{◌∙◌, IfSome, ap, subst, sym}
use Rattle.xapi_index.specs.Index.{Indexed, IsRising}
use Rattle.xapi_index.specs.Times.{AreLaterFrom}
use Rattle.xapi_index.proofs.index.Index.later_than.Goals as goal

pub later_in-requires : goal.later_in-requires
later_in-requires c = λ is. subst (λ xs. IsRising xs) (sym c.as_slice.ensures.value) (c.self.invariant.rising is)

pub returns : goal.returns
returns c =
    subst (λ xs. IfSome c.later_in.result (AreLaterFrom xs c.args.n c.args.instant)) (c.as_slice.ensures.value ∙ ap (λ (v : Indexed). v.held) c.self.view_is) c.later_in.ensures
