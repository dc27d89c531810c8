use Rattle.std.proofs.Common.{◌≡◌, drop, map}
use Rattle.xapi_parameters.specs.Documents.{have_all}
use Rattle.xapi_parameters.proofs.documents.have_all.Given as goal

-- each name so far is had
abbrev pub invariant-loop-name : goal.invariant-loop-name
invariant-loop-name l =
    have_all (map (λ name. name.now) l.names) l.pairs ≡ have_all (map (λ name. name.now) (drop l.name-index l.names)) l.pairs
