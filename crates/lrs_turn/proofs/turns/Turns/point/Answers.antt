use Rattle.std.proofs.Common.{sym, ap, ◌∙◌, arith, refl}
use Rattle.lrs_turn.specs.Rule.{meaning}
use Rattle.lrs_turn.specs.Views.{view_of}
use Rattle.lrs_turn.proofs.Steps.{point_asks}
use Rattle.lrs_turn.proofs.Views.{opens}
use Rattle.lrs_turn.proofs.turns.Turns.point.Goals as goal

pub load-pass-inside-requires : goal.load-pass-inside-requires
load-pass-inside-requires g c =
    let p = c.args.pass.now in
    let seat = c.into_seat-seat.ensures in
    let old = c.replace-badge.ensures.value in
    let me = opens _ _ _ p _ c.pass.view_is c.pass.invariant.0 (ap (λ b. b.views) old) seat.2 seat.3 in
    let asked = c.requires.turn in (
      seat.0 ∙ (ap (λ b. b.table_id) old ∙ ap (λ t. t.id) (ap (λ q. q.turns) c.pass.view_is ∙ (asked.0 ∙ sym c.self.view_is))),
      omega (arith, c.self.invariant.0),
      point_asks (meaning g.S.Journaled.line g.S.Journaled.marks g.S.Journaled.tide) _ _ _ _ (view_of p) c.self.invariant.1 me asked.1 refl,
    )
