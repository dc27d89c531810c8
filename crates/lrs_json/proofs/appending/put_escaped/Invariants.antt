use Rattle.std.proofs.Common.{◌≡◌, ◌++◌, length}
use Rattle.std.specs.List.{flat_map}
use Rattle.lrs_json.specs.Written.{Extends, escaped}
use Rattle.lrs_json.proofs.appending.put_escaped.Given as goal

-- with what is left, the text is whole
abbrev pub invariant-loop-left : goal.invariant-loop-left
invariant-loop-left l = Extends l.fn.into.items l.into.items × (l.into.items ++ flat_map escaped l.left ≡ l.fn.into.items ++ flat_map escaped l.text)

abbrev pub decreases-loop-left : goal.decreases-loop-left
decreases-loop-left l = length l.left
