use Rattle.std.proofs.Common.{◌≡◌, ◌++◌, map, drop}
use Rattle.lrs_command_line.specs.CommandLine.{whole_line}
use Rattle.lrs_command_line.proofs.words.taken.texts_of.Given as goal

abbrev pub invariant-loop-word : goal.invariant-loop-word
invariant-loop-word l = map (λ t. t.now) l.texts.items ++ drop l.word-index l.words ≡ whole_line l.words
