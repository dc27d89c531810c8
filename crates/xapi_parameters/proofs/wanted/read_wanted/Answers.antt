use Rattle.std.proofs.Common.{◌≡◌, Some, None, ap, ◌∙◌}
use Rattle.xapi_parameters.proofs.Least.{get_at, get_once, rule_answers, value_answers}
use Rattle.xapi_parameters.proofs.wanted.read_wanted.Goals as goal

pub returns-in-Some-clause-broken : goal.returns-in-Some-clause-broken
returns-in-Some-clause-broken c = λ rule is.
    let same : c.in-Some.number ≡ rule = cc is in get_at c.args.pairs.now _ _ (c.in-Some.is ∙ ap Some same) c.in_ok-number.ensures

pub returns-in-Some-clause-always : goal.returns-in-Some-clause-always
returns-in-Some-clause-always c = λ found least.
    rule_answers _ found c.in-Some.number
    (get_once c.args.pairs.now found (Some c.in-Some.number) least (get_at c.args.pairs.now _ _ c.in-Some.is c.in_ok-number.ensures))

pub wanted_by-requires : goal.wanted_by-requires
wanted_by-requires c = get_at c.args.pairs.now _ _ c.in-None.is c.in_ok-number.ensures

pub returns-in_ok-wanted_by-in-None-clause-always : goal.returns-in_ok-wanted_by-in-None-clause-always
returns-in_ok-wanted_by-in-None-clause-always c = λ found least.
    value_answers found _ (get_once c.args.pairs.now found None least (get_at c.args.pairs.now _ _ c.in-None.is c.in_ok-number.ensures))

pub returns-in_ok-wanted_by-in-None-clause-wanted : goal.returns-in_ok-wanted_by-in-None-clause-wanted
returns-in_ok-wanted_by-in-None-clause-wanted c = (get_at c.args.pairs.now _ _ c.in-None.is c.in_ok-number.ensures, c.in_ok-wanted_by-in-None.ensures)
