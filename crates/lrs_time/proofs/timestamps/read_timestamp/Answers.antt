use Rattle.lrs_time.proofs.TimestampLemmas.{outcome, shape_iff, no_such_day_iff, negative_zero_iff, instant_iff}
use Rattle.lrs_time.proofs.timestamps.read_timestamp.Goals as goal

pub returns-clause-shape : goal.returns-clause-shape
returns-clause-shape c = shape_iff c.args.text.now _ (outcome c.args.text.now c.read.result c.read.ensures)

pub returns-clause-no_such_day : goal.returns-clause-no_such_day
returns-clause-no_such_day c = no_such_day_iff c.args.text.now _ (outcome c.args.text.now c.read.result c.read.ensures)

pub returns-clause-negative_zero : goal.returns-clause-negative_zero
returns-clause-negative_zero c = negative_zero_iff c.args.text.now _ (outcome c.args.text.now c.read.result c.read.ensures)

pub returns-clause-instant : goal.returns-clause-instant
returns-clause-instant c = instant_iff c.args.text.now _ (outcome c.args.text.now c.read.result c.read.ensures)
