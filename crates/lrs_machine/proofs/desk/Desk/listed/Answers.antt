use Rattle.std.proofs.Common.{◌∙◌, ap, sym}
use Rattle.lrs_parts.specs.State.{State}
use Rattle.lrs_fold.specs.XapiPagesListings.{listed_of_all}
use Rattle.lrs_machine.proofs.desk.Desk.listed.Goals as goal

pub returns : goal.returns
returns g c =
    rw (sym c.self.view_is) (c.listed.ensures ∙ ap (λ (st : State). listed_of_all st.statements) c.self.invariant.0.folded)
