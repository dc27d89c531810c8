use Rattle.std.proofs.Common.{◌≡◌, false, length}
use Rattle.lrs_command_line.specs.CommandLine.{options_of_command}
use Rattle.lrs_command_line.specs.Shapes.{is_plain}
use Rattle.lrs_command_line.proofs.words.plain.is_plain_for.Given as goal

abbrev pub invariant-loop-left : goal.invariant-loop-left
invariant-loop-left l = is_plain (options_of_command l.command) false l.left ≡ is_plain (options_of_command l.command) false l.words

abbrev pub decreases-loop-left : goal.decreases-loop-left
decreases-loop-left l = length l.left
