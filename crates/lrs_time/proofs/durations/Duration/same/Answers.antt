use Rattle.lrs_time.proofs.DurationLemmas.{same_span_equivalence}
use Rattle.lrs_time.proofs.durations.Duration.same.Goals as goal

pub returns-else-self-other-6-clause-equivalence : goal.returns-else-self-other-6-clause-equivalence
returns-else-self-other-6-clause-equivalence c = same_span_equivalence
