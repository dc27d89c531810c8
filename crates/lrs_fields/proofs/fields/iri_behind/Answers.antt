use Rattle.std.proofs.Common.{IsTrue, refl}
use Rattle.lrs_names.specs.Iris.{is_iri}
use Rattle.lrs_fields.specs.Reading.{IsKeptValue}
use Rattle.lrs_fields.specs.Values.{iri_value}
use Rattle.lrs_fields.proofs.FieldValues.{spelled, unspelled}
use Rattle.lrs_fields.proofs.Sequences.{failed}
use Rattle.lrs_fields.proofs.fields.iri_behind.Goals as goal

pub returns-in_err-text : goal.returns-in_err-text
returns-in_err-text c = failed _ c.from_residual.ensures.1 (unspelled c.args.front.now (λ iri. iri) (λ iri. IsTrue (is_iri iri)) (IsKeptValue iri_value) _ _ _ _ (λ iri is. (is.0.1, is.0.0)) c.in_err-text.ensures)

pub returns : goal.returns
returns c =
    spelled c.args.front.now (λ iri. iri) (λ iri. IsTrue (is_iri iri)) (IsKeptValue iri_value) _ _ _ _ _ (λ iri is utf8. ((utf8, is), tt)) (λ iri is. (is.0.1, is.0.0)) refl c.in_ok-text.ensures c.iri_of.ensures
