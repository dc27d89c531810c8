use Rattle.std.proofs.Common.{◌≡◌, ◌+◌, ◌-◌, ◌≤◌, [], length, vec_capacity}
use Rattle.lrs_turn.specs.Lists.{Each}
use Rattle.lrs_turn.specs.Rule.{meaning}
use Rattle.lrs_turn.specs.Views.{fresh, opened_at}
use Rattle.lrs_turn.proofs.dealing.deal_all.Given as goal

abbrev pub invariant-loop-i : goal.invariant-loop-i
invariant-loop-i g l =
    let m = meaning g.S.Journaled.line g.S.Journaled.marks g.S.Journaled.tide in
    (l.seat.table_id ≡ l.shared.table_id) × (l.seat.me ≡ (fresh m l._state.value l.count (l.count + 1 - l.i), []))
    × (length l.passes.items + 1 ≡ l.i) × (l.count ≤ vec_capacity l.passes)
    × Each (λ p. p ≡ opened_at m l.shared.table_id l.count l._state.value) l.passes.items
