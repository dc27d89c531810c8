use Rattle.std.proofs.Common.{◌≡◌, length}
use Rattle.lrs_http.specs.Fields.{asks_to_close}
use Rattle.lrs_http.proofs.fields.asks_to_close.Given as goal

abbrev pub invariant-elements : goal.invariant-elements
invariant-elements l = asks_to_close l.value ≡ asks_to_close l.rest

abbrev pub decreases-elements : goal.decreases-elements
decreases-elements l = length l.rest
