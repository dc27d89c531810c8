use Rattle.std.proofs.Common.{◌≡◌, ◌+◌, not, drop}
use Rattle.std.specs.List.{prefix_len}
use Rattle.lrs_decimal.specs.Parts.{is_e}
use Rattle.lrs_decimal.proofs.parts.e_offset.Given as goal

abbrev pub invariant-loop-i : goal.invariant-loop-i
invariant-loop-i l = prefix_len (λ b. not (is_e b)) l.bytes ≡ l.i + prefix_len (λ b. not (is_e b)) (drop l.i l.bytes)
