use Rattle.std.proofs.Common.{ℕ, List, None, ap, ◌∙◌}
use Rattle.lrs_replies.specs.declared.answered.Answered.TheVariants.{Shown}
use Rattle.lrs_fold.proofs.saying.shown.Goals as goal

pub returns-in-Ok : goal.returns-in-Ok
returns-in-Ok c body told = ap (λ (text : List ℕ). Shown text None) (c.from_vec.ensures ∙ (rw c.in-Ok.is at told))
