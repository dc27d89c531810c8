use Rattle.std.proofs.Common.{◌≡◌, length}
use Rattle.lrs_command_line.specs.Shapes.{value_behind}
use Rattle.lrs_command_line.proofs.words.plain.value_behind.Given as goal

abbrev pub invariant-loop-left : goal.invariant-loop-left
invariant-loop-left l = value_behind l.name l.left ≡ value_behind l.name l.line

abbrev pub decreases-loop-left : goal.decreases-loop-left
decreases-loop-left l = length l.left
