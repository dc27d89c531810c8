use Rattle.std.proofs.Common.{◌≡◌, length}
use Rattle.lrs_json.specs.Names.{is_among}
use Rattle.lrs_command_line.proofs.words.plain.is_among.Given as goal

abbrev pub invariant-loop-left : goal.invariant-loop-left
invariant-loop-left l = is_among l.word l.left ≡ is_among l.word l.words

abbrev pub decreases-loop-left : goal.decreases-loop-left
decreases-loop-left l = length l.left
