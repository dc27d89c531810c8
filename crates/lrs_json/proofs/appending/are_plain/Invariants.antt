use Rattle.std.proofs.Common.{◌≡◌, ◌&&◌, drop}
use Rattle.std.specs.List.{list_all}
use Rattle.lrs_json.specs.Written.{is_plain}
use Rattle.lrs_json.proofs.appending.are_plain.Given as goal

abbrev pub invariant-loop-byte : goal.invariant-loop-byte
invariant-loop-byte l = list_all is_plain l.block ≡ l.plain && list_all is_plain (drop l.byte-index l.block)
