use Rattle.std.proofs.Common.{◌≡◌, drop, map}
use Rattle.xapi_parameters.specs.Parameters.{are_among}
use Rattle.xapi_parameters.proofs.parameters.are_among.Given as goal

abbrev pub invariant-loop-pair : goal.invariant-loop-pair
invariant-loop-pair l =
    are_among (map (λ name. name.now) l.names) l.pairs ≡ are_among (map (λ name. name.now) l.names) (drop l.pair-index l.pairs)
