use Rattle.std.proofs.Common.{ap, arith}
use Rattle.lrs_turn.specs.Rule.{meaning}
use Rattle.lrs_turn.proofs.Steps.{splits}
use Rattle.lrs_turn.proofs.dealing.deal_all.Goals as goal

pub split_seat-requires : goal.split_seat-requires
split_seat-requires g c =
    let inv = c.loop-i.invariant in
    let holds = ap (λ m. m.0.holds) inv.1 in
    let parts = ap (λ m. m.0.parts) inv.1 in
    let near = c.loop-i-test.true in
    (inv.0, omega (arith, c.requires.table.1), splits (meaning g.S.Journaled.line g.S.Journaled.marks g.S.Journaled.tide) _ _ _ holds (omega (arith, parts, near)))
