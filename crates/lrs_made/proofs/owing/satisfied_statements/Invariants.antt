use Rattle.std.proofs.Common.{◌≡◌, ◌++◌, drop, filter_map, map}
use Rattle.lrs_history.specs.Made.{satisfied_at}
use Rattle.lrs_made.specs.Lent.{seen_enrolled}
use Rattle.lrs_made.proofs.Supplied.{value_of}
use Rattle.lrs_made.proofs.owing.satisfied_statements.Given as goal

-- what is said so far, and what is said of those that are left
abbrev pub invariant-loop-index : goal.invariant-loop-index
invariant-loop-index l =
    map value_of l.said.items ++ filter_map (satisfied_at (seen_enrolled l.enrolled) l.session) (drop l.index-index l.indices)
    ≡ filter_map (satisfied_at (seen_enrolled l.enrolled) l.session) l.indices
