use Rattle.std.proofs.Common.{◌≡◌, Some, None, ap, sym, ◌∙◌}
use Rattle.xapi_parameters.proofs.Least.{rule_answers, value_answers}
use Rattle.xapi_parameters.proofs.Owners.{document_at, document_once, document_owners}
use Rattle.xapi_parameters.proofs.documents.read_key.Goals as goal

pub returns-in-Some-clause-broken : goal.returns-in-Some-clause-broken
returns-in-Some-clause-broken c = λ rule is.
    let same : c.in-Some.number ≡ rule = cc is in document_at c.args.pairs.now _ _ (c.in-Some.is ∙ ap Some same) c.in_ok-number.ensures

pub returns-in-Some-clause-always : goal.returns-in-Some-clause-always
returns-in-Some-clause-always c = λ found least.
    rule_answers _ found c.in-Some.number
    (document_once c.args.pairs.now found (Some c.in-Some.number) least (document_at c.args.pairs.now _ _ c.in-Some.is c.in_ok-number.ensures))

pub key_of-requires : goal.key_of-requires
key_of-requires c = document_owners c.args.pairs.now (document_at c.args.pairs.now _ _ c.in-None.is c.in_ok-number.ensures)

pub returns-in_ok-key_of-in-Some-given-clause-always : goal.returns-in_ok-key_of-in-Some-given-clause-always
returns-in_ok-key_of-in-Some-given-clause-always c = λ found least.
    value_answers found _ (document_once c.args.pairs.now found None least (document_at c.args.pairs.now _ _ c.in-None.is c.in_ok-number.ensures))

pub returns-in_ok-key_of-in-Some-given-clause-key : goal.returns-in_ok-key_of-in-Some-given-clause-key
returns-in_ok-key_of-in-Some-given-clause-key c = (
  document_at c.args.pairs.now _ _ c.in-None.is c.in_ok-number.ensures,
  record {
    owners = c.in_ok-key_of-in-Some-given.ensures.owners;
    state_is = sym c.in-Some-given.ensures ∙ ap Some (sym c.in_ok-key_of-in-Some-given.ensures.state);
  },
)
