use Rattle.std.specs.Prelude.{is_some}
use Rattle.lrs_decimal.proofs.Tests.{decimal-test}
use Rattle.lrs_decimal.proofs.decimal.Decimal.of.Goals as goal

pub returns-clause-test : goal.returns-clause-test
returns-clause-test c = decimal-test c.args.spelling.now (is_some c.in_range.result) c.in_range.ensures.exact
