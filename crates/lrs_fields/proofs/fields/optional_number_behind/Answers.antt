use Rattle.std.proofs.Common.{Ok, Err}
use Rattle.lrs_fields.specs.Values.{number_value}
use Rattle.lrs_fields.proofs.FieldValues.{there}
use Rattle.lrs_fields.proofs.Sequences.{failed}
use Rattle.lrs_fields.proofs.fields.optional_number_behind.Goals as goal

pub returns-in_err-number_behind-clause-read : goal.returns-in_err-number_behind-clause-read
returns-in_err-number_behind-clause-read c = failed _ c.from_residual.ensures.1 (there c.args.front.now number_value _ _ _ (Err _) c.if-take.ensures c.in_err-number_behind.ensures)

pub returns-then-take-clause-read : goal.returns-then-take-clause-read
returns-then-take-clause-read c = there c.args.front.now number_value _ _ _ (Ok _) c.if-take.ensures c.in_ok-number_behind.ensures
