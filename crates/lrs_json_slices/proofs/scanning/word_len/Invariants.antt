use Rattle.std.proofs.Common.{◌≡◌, ◌+◌, drop}
use Rattle.std.specs.List.{prefix_len}
use Rattle.lrs_json_slices.specs.Scanning.{is_of_word}
use Rattle.lrs_json_slices.proofs.scanning.word_len.Given as goal

abbrev pub invariant-loop-i : goal.invariant-loop-i
invariant-loop-i l = prefix_len is_of_word l.bytes ≡ l.i + prefix_len is_of_word (drop l.i l.bytes)
