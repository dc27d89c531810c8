use Rattle.std.proofs.Common.{sym, ap, ◌∙◌, arith, refl}
use Rattle.lrs_turn.specs.Rule.{meaning}
use Rattle.lrs_turn.specs.Views.{view_of, sight_of}
use Rattle.lrs_turn.proofs.Steps.{fetch_asks, give_asks}
use Rattle.lrs_turn.proofs.Views.{opens, fetched, puts}
use Rattle.lrs_turn.proofs.turns.Turns.give_as.Goals as goal

pub load-requires : goal.load-requires
load-requires g c =
    let p = c.args.pass.now in
    let seat = c.into_seat-seat.ensures in
    let old = c.replace-badge.ensures.value in
    let me = opens _ _ _ p _ c.pass.view_is c.pass.invariant.0 (ap (λ b. b.views) old) seat.2 seat.3 in
    let asked = c.requires.turn in (
      seat.0 ∙ (ap (λ b. b.table_id) old ∙ ap (λ t. t.id) (ap (λ q. q.turns) c.pass.view_is ∙ (asked.0 ∙ sym c.self.view_is))),
      omega (arith, c.self.invariant.0),
      fetch_asks (meaning g.S.Journaled.line g.S.Journaled.marks g.S.Journaled.tide) _ _ _ _ (view_of p) c.self.invariant.1 me asked.1 refl,
    )

pub swap-requires : goal.swap-requires
swap-requires g c =
    let p = c.args.pass.now in
    let seat = c.into_seat-seat.ensures in
    let old = c.replace-badge.ensures.value in
    let me = opens _ _ _ p _ c.pass.view_is c.pass.invariant.0 (ap (λ b. b.views) old) seat.2 seat.3 in
    let asked = c.requires.turn in
    let took = c.load.ensures in
    let put = c.exchange-nothing.ensures in
    let full = puts _ _ _ _ _ (fetched _ _ _ me took.2) put.3 in (
      put.0 ∙ (took.0 ∙ (seat.0 ∙ (ap (λ b. b.table_id) old ∙ ap (λ t. t.id) (ap (λ q. q.turns) c.pass.view_is ∙ (asked.0 ∙ sym c.self.view_is))))),
      omega (arith, c.self.invariant.0),
      give_asks (meaning g.S.Journaled.line g.S.Journaled.marks g.S.Journaled.tide) _ _ _ _ _ (sight_of p) c.args.state _ c.self.invariant.1 full asked.1 refl
          c.requires.line refl c.requires.marks c.requires.tide c.requires.known,
    )
