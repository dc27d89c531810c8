use Rattle.std.proofs.Common.{length, ap, ◌∙◌}
use Rattle.xapi_received.proofs.draft.Draft.skip.Goals as goal

pub returns-clause-ends : goal.returns-clause-ends
returns-clause-ends c = c.in_ok-end.ensures ∙ ap length c.as_slice.ensures.value
