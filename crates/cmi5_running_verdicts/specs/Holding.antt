-- Which nodes hold which, in lists of nodes where each stands behind the one that holds it.
use Rattle.std.specs.Prelude.{◌≡◌, ◌<◌, ℕ, ◌&&◌, Bool, not, List, Some}
use Rattle.std.specs.List.{count_by}
use Rattle.cmi5_course.specs.declared.course.Node.{Node}
use Rattle.cmi5_verdict.specs.Nodes.{is_under, parent_of, indices}

-- each node stands behind the one that holds it, so that none holds itself
abbrev pub StandBehindHolders : List Node → Type 0
StandBehindHolders nodes = (index parent : ℕ) → parent_of nodes index ≡ Some parent → parent < index

-- how many nodes under that one, itself among them, don't pass
abbrev pub failing_under : List Node → (ℕ → Bool) → ℕ → ℕ
failing_under nodes passes holder =
    count_by (λ index. is_under nodes holder index && not (passes index)) (indices nodes)
