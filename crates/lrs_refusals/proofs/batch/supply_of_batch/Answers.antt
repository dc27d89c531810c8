use Rattle.std.proofs.Common.{ℕ, List, IfOk, ◌∙◌, subst}
use Rattle.lrs_ids.specs.IdSupply.{GiveSame, left_of}
use Rattle.lrs_ids.specs.Ids.{supply_of}
use Rattle.lrs_made.specs.LrsPartsParts.{state_of}
use Rattle.lrs_made.specs.LrsStateState.{used_in}
use Rattle.lrs_refusals.proofs.batch.supply_of_batch.Goals as goal

pub returns : goal.returns
returns c =
    let used = used_in (state_of c.args.parts.now) in
    subst (λ (ids : List (List ℕ)). IfOk c.new.result (λ supply. GiveSame (left_of used supply) (supply_of used ids c.args.draw.now.name)))
    (c.as_slice.ensures.value ∙ c.in_ok-given.ensures) c.new.ensures
