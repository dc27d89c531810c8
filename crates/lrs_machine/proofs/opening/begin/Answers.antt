use Rattle.std.proofs.Common.{◌≡◌, subst, OnOk}
use Rattle.lrs_state.specs.declared.effect.Effect.{Effect}
use Rattle.lrs_parts.specs.State.{State, apply, nothing}
use Rattle.lrs_fold.specs.LrsHistoryEffects.{effect}
use Rattle.lrs_machine.specs.Fold.{state_of}
use Rattle.lrs_machine.proofs.opening.begin.Goals as goal

pub returns : goal.returns
returns c =
    let over : State → Type 0 = λ st. OnOk c.take_in.result (state_of c.take_in.new.fold ≡ apply st c.in_ok-effect.effect) in
    let of : Effect → Type 0 = λ made. OnOk c.take_in.result (state_of c.take_in.new.fold ≡ apply nothing made) in
    let made : State → Type 0 = λ st. c.in_ok-effect.effect ≡ effect st c.args.entry in
    subst of (subst made c.requires.empty c.in_ok-effect.ensures) (subst over c.requires.empty c.take_in.ensures)
