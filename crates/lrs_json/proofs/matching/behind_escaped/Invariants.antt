use Rattle.std.proofs.Common.{◌≡◌, length}
use Rattle.std.specs.List.{flat_map}
use Rattle.lrs_json.specs.Behind.{left_behind}
use Rattle.lrs_json.specs.Written.{escaped}
use Rattle.lrs_json.proofs.matching.behind_escaped.Given as goal

abbrev pub invariant-loop-unmatched : goal.invariant-loop-unmatched
invariant-loop-unmatched l = left_behind (flat_map escaped l.unmatched) l.left ≡ left_behind (flat_map escaped l.text) l.bytes

abbrev pub decreases-loop-unmatched : goal.decreases-loop-unmatched
decreases-loop-unmatched l = length l.unmatched
