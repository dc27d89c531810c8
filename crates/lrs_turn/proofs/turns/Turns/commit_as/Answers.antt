use Rattle.std.proofs.Common.{sym, ap, ◌∙◌, arith}
use Rattle.lrs_turn.specs.Rule.{meaning}
use Rattle.lrs_turn.specs.Views.{view_of}
use Rattle.lrs_turn.proofs.Steps.{commit_asks}
use Rattle.lrs_turn.proofs.Views.{opens}
use Rattle.lrs_turn.proofs.turns.Turns.commit_as.Goals as goal

pub fetch_add-requires : goal.fetch_add-requires
fetch_add-requires g c =
    let p = c.args.pass.now in
    let seat = c.into_seat-seat.ensures in
    let old = c.replace-badge.ensures.value in
    let me = opens _ _ _ p _ c.pass.view_is c.pass.invariant.0 (ap (λ b. b.views) old) seat.2 seat.3 in
    let asked = c.requires.turn in
    let fits = c.ranges.count.fits in
    let count = c.requires.count in (
      seat.0 ∙ (ap (λ b. b.table_id) old ∙ ap (λ t. t.id) (ap (λ q. q.turns) c.pass.view_is ∙ (asked.0 ∙ sym c.self.view_is))),
      omega (arith, c.self.invariant.0),
      commit_asks (meaning g.S.Journaled.line g.S.Journaled.marks g.S.Journaled.tide) _ _ _ _ (view_of p) _ c.requires.line.0 c.self.invariant.1 me asked.1
          c.requires.line.1 (omega (arith, fits, count)),
    )
