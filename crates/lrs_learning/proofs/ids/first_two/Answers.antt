use Rattle.std.proofs.Common.{suc, ◌∙◌}
use Rattle.lrs_learning.proofs.ids.first_two.Goals as goal

pub returns-clause-first : goal.returns-clause-first
returns-clause-first c = c.in_ok-first.ensures.id ∙ c.in_ok-left.ensures.same 0

pub returns-clause-second : goal.returns-clause-second
returns-clause-second c = c.in_ok-second.ensures.id ∙ (c.in_ok-first.ensures.left.same 0 ∙ c.in_ok-left.ensures.same 1)

pub returns-clause-left : goal.returns-clause-left
returns-clause-left c = record {
  same = λ k. c.in_ok-second.ensures.left.same k ∙ (c.in_ok-first.ensures.left.same (suc k) ∙ c.in_ok-left.ensures.same (suc (suc k)));
}
