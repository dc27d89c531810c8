use Rattle.std.proofs.Common.{◌≡◌, ◌-◌, ◌++◌, length}
use Rattle.std.specs.List.{range_with_len}
use Rattle.std.specs.Prelude.{filter}
use Rattle.cmi5_verdict.specs.Marks.{is_owed_by}
use Rattle.cmi5_verdict.specs.Nodes.{indices}
use Rattle.cmi5_verdict.proofs.owing.owed_by.Given as goal

abbrev pub invariant-loop-index : goal.invariant-loop-index
invariant-loop-index l =
    l.found.items ++ filter (is_owed_by l.nodes l.satisfied l.said) (range_with_len l.index (length l.nodes - l.index))
    ≡ filter (is_owed_by l.nodes l.satisfied l.said) (indices l.nodes)
