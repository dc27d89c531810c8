use Rattle.std.proofs.Common.{Some, sym, ap, ◌∙◌, arith, refl}
use Rattle.lrs_turn.specs.Rule.{meaning}
use Rattle.lrs_turn.specs.Views.{view_of}
use Rattle.lrs_turn.proofs.Steps.{take_asks, rest_asks}
use Rattle.lrs_turn.proofs.Views.{opens, puts, carries}
use Rattle.lrs_turn.proofs.turns.Turns.try_take.Goals as goal

pub compare_exchange-found-requires : goal.compare_exchange-found-requires
compare_exchange-found-requires g c =
    let p = c.args.pass.now in
    let seat = c.into_seat-seat.ensures in
    let old = c.replace-badge.ensures.value in
    let me = opens _ _ _ p _ c.pass.view_is c.pass.invariant.0 (ap (λ b. b.views) old) seat.2 seat.3 in
    let asked = c.requires in (
      seat.0 ∙ (ap (λ b. b.table_id) old ∙ ap (λ t. t.id) (ap (λ q. q.turns) c.pass.view_is ∙ (asked.0 ∙ sym c.self.view_is))),
      omega (arith, c.self.invariant.0),
      take_asks (meaning g.S.Journaled.line g.S.Journaled.marks g.S.Journaled.tide) _ _ _ _ (view_of p) c.self.invariant.1 me (omega arith),
    )

pub exchange-state-requires : goal.exchange-state-requires
exchange-state-requires g c =
    let seat = c.into_seat-seat.ensures in
    let old = c.replace-badge.ensures.value in
    let took = c.compare_exchange-found.ensures in
    let st = took.2.1 c.if-found-eq1.false in (
      took.0 ∙ (seat.0 ∙ (ap (λ b. b.table_id) old ∙ ap (λ t. t.id) (ap (λ q. q.turns) c.pass.view_is ∙ (c.requires.0 ∙ sym c.self.view_is)))),
      (Some st.1, carries _ _ _ st.4),
    )

pub load-requires : goal.load-requires
load-requires g c =
    let seat = c.into_seat-seat.ensures in
    let old = c.replace-badge.ensures.value in
    let took = c.compare_exchange-found.ensures in
    let st = took.2.1 c.if-found-eq1.false in
    let put = c.exchange-state.ensures in (
      put.0 ∙ (took.0 ∙ (seat.0 ∙ (ap (λ b. b.table_id) old ∙ ap (λ t. t.id) (ap (λ q. q.turns) c.pass.view_is ∙ (c.requires.0 ∙ sym c.self.view_is))))),
      omega (arith, c.self.invariant.0),
      rest_asks (meaning g.S.Journaled.line g.S.Journaled.marks g.S.Journaled.tide) _ _ _ _ _ c.self.invariant.1 (puts _ _ _ _ _ st.4 put.3) refl refl,
    )
