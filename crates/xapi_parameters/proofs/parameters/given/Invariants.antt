use Rattle.std.proofs.Common.{◌≡◌, drop}
use Rattle.xapi_parameters.specs.Parameters.{given}
use Rattle.xapi_parameters.proofs.parameters.given.Given as goal

-- none of the pairs so far has the name
abbrev pub invariant-loop-pair : goal.invariant-loop-pair
invariant-loop-pair l = given l.name l.pairs ≡ given l.name (drop l.pair-index l.pairs)
