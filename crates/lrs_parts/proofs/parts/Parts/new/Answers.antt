use Rattle.lrs_parts.proofs.Kept.{kept_of_nothing}
use Rattle.lrs_parts.proofs.parts.Parts.new.Goals as goal

pub invariant_of-result : goal.invariant_of-result
invariant_of-result c =
    kept_of_nothing c.new-progress.result c.new-learning.result.editions.held c.new-learning.result.registrations.held c.new-statements.result.held c.new-progress.ensures.own
    c.new-progress.ensures.reached c.new-progress.ensures.held c.new-learning.ensures.registrations c.new-statements.ensures
