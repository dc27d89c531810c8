use Rattle.lrs_time.proofs.DurationLemmas.{none_iff, some_iff}
use Rattle.lrs_time.proofs.durations.Duration.read.Goals as goal

pub returns-clause-none : goal.returns-clause-none
returns-clause-none c = none_iff c.args.text.now c.read_exactly.result c.read_exactly.ensures

pub returns-clause-some : goal.returns-clause-some
returns-clause-some c = some_iff c.args.text.now c.read_exactly.result c.read_exactly.ensures
