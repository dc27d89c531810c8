use Rattle.std.proofs.Common.{◌∙◌, sym, arith}
use Rattle.lrs_http.proofs.FieldLemmas.{length_parts}
use Rattle.lrs_http.proofs.fields.stated_length.Goals as goal

pub digits_value-length-requires-clause-digits : goal.digits_value-length-requires-clause-digits
digits_value-length-requires-clause-digits c = (length_parts c.in-Some.value.now (sym c.is_length.ensures ∙ c.if-not-is_length.false)).1

pub digits_value-length-requires-clause-few : goal.digits_value-length-requires-clause-few
digits_value-length-requires-clause-few c = let parts = length_parts c.in-Some.value.now (sym c.is_length.ensures ∙ c.if-not-is_length.false) in omega (arith, parts.0)
