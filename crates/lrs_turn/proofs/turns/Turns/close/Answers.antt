use Rattle.std.proofs.Common.{sym, ◌∙◌, ap}
use Rattle.lrs_turn.specs.Rule.{meaning}
use Rattle.lrs_turn.proofs.Views.{ending, ended, not_some}
use Rattle.lrs_turn.proofs.turns.Turns.close.Goals as goal

pub unreachable-requires : goal.unreachable-requires
unreachable-requires g c =
    let m = meaning g.S.Journaled.line g.S.Journaled.marks g.S.Journaled.tide in
    let end = ending m _ _ _ _ _ _ c.args.passes.items c.close_with-closed.ensures.values.2 c.take-state.ensures.value c.gather-seat.ensures.covers
    (c.requires.all ∙ sym (ap (λ t. t.passes) c.self.view_is)) in
    not_some end.0 (sym c.in-None.is ∙ end.1)

pub returns-clause-fronts : goal.returns-clause-fronts
returns-clause-fronts g c =
    (ended (meaning g.S.Journaled.line g.S.Journaled.marks g.S.Journaled.tide) _ _ _ _ _ _ c.args.passes.items _ c.close_with-closed.ensures.values.2
    c.take-state.ensures.value c.gather-seat.ensures.covers (c.requires.all ∙ sym (ap (λ t. t.passes) c.self.view_is)) c.in-Some.is).fronts

pub returns-clause-marks : goal.returns-clause-marks
returns-clause-marks g c =
    (ended (meaning g.S.Journaled.line g.S.Journaled.marks g.S.Journaled.tide) _ _ _ _ _ _ c.args.passes.items _ c.close_with-closed.ensures.values.2
    c.take-state.ensures.value c.gather-seat.ensures.covers (c.requires.all ∙ sym (ap (λ t. t.passes) c.self.view_is)) c.in-Some.is).marks

pub returns-clause-tide : goal.returns-clause-tide
returns-clause-tide g c =
    (ended (meaning g.S.Journaled.line g.S.Journaled.marks g.S.Journaled.tide) _ _ _ _ _ _ c.args.passes.items _ c.close_with-closed.ensures.values.2
    c.take-state.ensures.value c.gather-seat.ensures.covers (c.requires.all ∙ sym (ap (λ t. t.passes) c.self.view_is)) c.in-Some.is).tide

pub returns-clause-alone : goal.returns-clause-alone
returns-clause-alone g c one =
    (ended (meaning g.S.Journaled.line g.S.Journaled.marks g.S.Journaled.tide) _ _ _ _ _ _ c.args.passes.items _ c.close_with-closed.ensures.values.2
    c.take-state.ensures.value c.gather-seat.ensures.covers (c.requires.all ∙ sym (ap (λ t. t.passes) c.self.view_is)) c.in-Some.is).alone (ap (λ t. t.passes) c.self.view_is ∙ one)

pub returns-clause-own : goal.returns-clause-own
returns-clause-own g c =
    (ended (meaning g.S.Journaled.line g.S.Journaled.marks g.S.Journaled.tide) _ _ _ _ _ _ c.args.passes.items _ c.close_with-closed.ensures.values.2
    c.take-state.ensures.value c.gather-seat.ensures.covers (c.requires.all ∙ sym (ap (λ t. t.passes) c.self.view_is)) c.in-Some.is).own
