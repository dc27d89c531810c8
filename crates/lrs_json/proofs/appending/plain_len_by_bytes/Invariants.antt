use Rattle.std.proofs.Common.{◌≡◌, ◌+◌, drop}
use Rattle.std.specs.List.{prefix_len}
use Rattle.lrs_json.specs.Written.{is_plain}
use Rattle.lrs_json.proofs.appending.plain_len_by_bytes.Given as goal

abbrev pub invariant-loop-i : goal.invariant-loop-i
invariant-loop-i l = prefix_len is_plain l.bytes ≡ l.i + prefix_len is_plain (drop l.i l.bytes)
