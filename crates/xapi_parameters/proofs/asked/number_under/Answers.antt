use Rattle.xapi_parameters.specs.Parameters.{given}
use Rattle.xapi_parameters.proofs.Numbers.{number_digits}
use Rattle.xapi_parameters.proofs.asked.number_under.Goals as goal

pub digits_value-requires-clause-digits : goal.digits_value-requires-clause-digits
digits_value-requires-clause-digits c = (number_digits (given c.args.name.now c.args.pairs.now) c.in-Some.text.now c.as_bytes.result.now c.in-Some.ensures c.as_bytes.ensures.lent c.requires).0

pub digits_value-requires-clause-few : goal.digits_value-requires-clause-few
digits_value-requires-clause-few c = (number_digits (given c.args.name.now c.args.pairs.now) c.in-Some.text.now c.as_bytes.result.now c.in-Some.ensures c.as_bytes.ensures.lent c.requires).1
