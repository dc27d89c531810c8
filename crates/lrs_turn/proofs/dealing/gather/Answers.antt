use Rattle.std.proofs.Common.{◌∷◌, [], ◌++◌, sym, ap, ◌∙◌, arith, subst}
use Rattle.lrs_turn.specs.Lists.{Each}
use Rattle.lrs_turn.specs.Passes.{IsIdle}
use Rattle.lrs_turn.specs.Rule.{meaning}
use Rattle.lrs_turn.specs.Views.{Covers}
use Rattle.lrs_turn.proofs.Steps.{joins}
use Rattle.lrs_turn.proofs.Views.{each_left, each_last, covers_more, moved_over}
use Rattle.lrs_turn.proofs.dealing.gather.Goals as goal

pub join_seat-requires : goal.join_seat-requires
join_seat-requires g c =
    let is_idle = IsIdle (record { id = c.args.shared.now.table_id; passes = c.args.shared.now.key.passes }) in
    let inv = c.loop-pass.invariant in
    let seat = c.into_seat.ensures in
    let pop = c.in-Some-pop.ensures in
    let idle = each_last is_idle c.pop-in-loop-pass.new.self.items c.in-Some-pop.pass (subst (Each is_idle) pop.items inv.2) in (
      inv.0,
      seat.table ∙ ap (λ t. t.id) idle.0,
      ap (λ m. m.1) seat.seat,
      omega (arith, c.requires.table.0),
      joins (meaning g.S.Journaled.line g.S.Journaled.marks g.S.Journaled.tide) _ _ _ _ _ inv.3.2.holds (ap (λ m. m.0.holds) seat.seat ∙ idle.1),
    )

pub loop-pass-preserved : goal.loop-pass-preserved
loop-pass-preserved g c =
    let is_idle = IsIdle (record { id = c.args.shared.now.table_id; passes = c.args.shared.now.key.passes }) in
    let inv = c.loop-pass.invariant in
    let seat = c.into_seat.ensures in
    let pop = c.in-Some-pop.ensures in
    let p = c.in-Some-pop.pass in
    let left = c.pop-in-loop-pass.new.self.items in
    let all = subst (Each is_idle) pop.items inv.2 in
    let joined = c.join_seat.ensures in
    let covers = covers_more p inv.3.0 c.loop-pass.seat.me.0 c.into_seat.result.me.0 (ap (λ m. m.0) seat.seat) inv.3.2 in (
      joined.0 ∙ inv.0,
      ap (λ m. m.1) joined.2 ∙ inv.1,
      each_left is_idle left (p ∷ []) all,
      (p ∷ inv.3.0, inv.3.1 ∙ (ap (λ l. l ++ inv.3.0) pop.items ∙ moved_over left p inv.3.0), subst (Covers (p ∷ inv.3.0)) (sym (ap (λ m. m.0) joined.2)) covers),
    )
