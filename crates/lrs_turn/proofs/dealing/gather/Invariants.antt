use Rattle.std.proofs.Common.{◌≡◌, List, [], ◌++◌, length}
use Rattle.lrs_turn.specs.Lists.{Each}
use Rattle.lrs_turn.specs.Passes.{IsIdle, Pass}
use Rattle.lrs_turn.specs.Views.{Covers}
use Rattle.lrs_turn.proofs.dealing.gather.Given as goal

abbrev pub invariant-loop-pass : goal.invariant-loop-pass
invariant-loop-pass g l =
    (l.seat.table_id ≡ l.shared.table_id) × (l.seat.me.1 ≡ []) × Each (IsIdle (record { id = l.shared.table_id; passes = l.shared.key.passes })) l.passes.items
    × ((done : List (Pass g.row.S-Record.Denot)) × (l.fn.passes.items ≡ l.passes.items ++ done) × Covers done l.seat.me.0)

abbrev pub decreases-loop-pass : goal.decreases-loop-pass
decreases-loop-pass g l = length l.passes.items
