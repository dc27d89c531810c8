use Rattle.std.proofs.Common.{◌≡◌, ◌+◌, drop, length}
use Rattle.std.specs.List.{flat_map}
use Rattle.lrs_json.specs.Written.{escaped}
use Rattle.xapi_statement.proofs.length.room_behind_text.Given as goal

abbrev pub invariant-loop-byte : goal.invariant-loop-byte
invariant-loop-byte l = l.left + 2 + length (flat_map escaped l.text) ≡ l.room + length (flat_map escaped (drop l.byte-index l.byte-items))
