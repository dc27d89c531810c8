use Rattle.std.proofs.Common.{◌≡◌, length}
use Rattle.xapi_parameters.specs.Parameters.{are_distinct}
use Rattle.xapi_parameters.proofs.parameters.are_distinct.Given as goal

-- none of the pairs before stands twice
abbrev pub invariant-loop-rest : goal.invariant-loop-rest
invariant-loop-rest l = are_distinct l.rest ≡ are_distinct l.initial.rest

abbrev pub decreases-loop-rest : goal.decreases-loop-rest
decreases-loop-rest l = length l.rest
