use Rattle.std.proofs.Common.{◌≡◌, false, length}
use Rattle.lrs_command_line.specs.Shapes.{alone}
use Rattle.lrs_command_line.proofs.words.plain.next_alone.Given as goal

abbrev pub invariant-loop-left : goal.invariant-loop-left
invariant-loop-left l = alone false l.left ≡ alone false l.line

abbrev pub decreases-loop-left : goal.decreases-loop-left
decreases-loop-left l = length l.left
