use Rattle.std.proofs.Common.{◌≡◌, Some, None, ap, ◌∙◌}
use Rattle.xapi_parameters.proofs.Least.{rule_answers, value_answers}
use Rattle.xapi_parameters.proofs.Owners.{documents_at, documents_get_once, documents_owners}
use Rattle.xapi_parameters.proofs.documents.read_documents.Goals as goal

pub returns-in-Some-clause-broken : goal.returns-in-Some-clause-broken
returns-in-Some-clause-broken c = λ rule is.
    let same : c.in-Some.number ≡ rule = cc is in documents_at c.args.pairs.now _ _ (c.in-Some.is ∙ ap Some same) c.in_ok-number.ensures

pub returns-in-Some-clause-always : goal.returns-in-Some-clause-always
returns-in-Some-clause-always c = λ found least.
    rule_answers _ found c.in-Some.number
    (documents_get_once c.args.pairs.now found (Some c.in-Some.number) least (documents_at c.args.pairs.now _ _ c.in-Some.is c.in_ok-number.ensures))

pub wanted_of-requires : goal.wanted_of-requires
wanted_of-requires c = documents_owners c.args.pairs.now (documents_at c.args.pairs.now _ _ c.in-None.is c.in_ok-number.ensures)

pub returns-in_ok-wanted_of-in-None-clause-always : goal.returns-in_ok-wanted_of-in-None-clause-always
returns-in_ok-wanted_of-in-None-clause-always c = λ found least.
    value_answers found _ (documents_get_once c.args.pairs.now found None least (documents_at c.args.pairs.now _ _ c.in-None.is c.in_ok-number.ensures))

pub returns-in_ok-wanted_of-in-None-clause-wanted : goal.returns-in_ok-wanted_of-in-None-clause-wanted
returns-in_ok-wanted_of-in-None-clause-wanted c = (documents_at c.args.pairs.now _ _ c.in-None.is c.in_ok-number.ensures, c.in_ok-wanted_of-in-None.ensures)
