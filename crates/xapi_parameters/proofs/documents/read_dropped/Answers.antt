use Rattle.std.proofs.Common.{◌≡◌, Some, None, ap, ◌∙◌}
use Rattle.xapi_parameters.proofs.Least.{rule_answers, value_answers}
use Rattle.xapi_parameters.proofs.Owners.{drop_at, drop_once, drop_owners}
use Rattle.xapi_parameters.proofs.documents.read_dropped.Goals as goal

pub returns-in-Some-clause-broken : goal.returns-in-Some-clause-broken
returns-in-Some-clause-broken c = λ rule is.
    let same : c.in-Some.number ≡ rule = cc is in drop_at c.args.pairs.now _ _ (c.in-Some.is ∙ ap Some same) c.in_ok-number.ensures

pub returns-in-Some-clause-always : goal.returns-in-Some-clause-always
returns-in-Some-clause-always c = λ found least.
    rule_answers _ found c.in-Some.number
    (drop_once c.args.pairs.now found (Some c.in-Some.number) least (drop_at c.args.pairs.now _ _ c.in-Some.is c.in_ok-number.ensures))

pub dropped_of-requires : goal.dropped_of-requires
dropped_of-requires c = drop_owners c.args.pairs.now (drop_at c.args.pairs.now _ _ c.in-None.is c.in_ok-number.ensures)

pub returns-in_ok-dropped_of-in-None-clause-always : goal.returns-in_ok-dropped_of-in-None-clause-always
returns-in_ok-dropped_of-in-None-clause-always c = λ found least.
    value_answers found _ (drop_once c.args.pairs.now found None least (drop_at c.args.pairs.now _ _ c.in-None.is c.in_ok-number.ensures))

pub returns-in_ok-dropped_of-in-None-clause-dropped : goal.returns-in_ok-dropped_of-in-None-clause-dropped
returns-in_ok-dropped_of-in-None-clause-dropped c = (drop_at c.args.pairs.now _ _ c.in-None.is c.in_ok-number.ensures, c.in_ok-dropped_of-in-None.ensures)
