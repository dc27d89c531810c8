use Rattle.std.proofs.Common.{length, ap, ◌∙◌}
use Rattle.xapi_received.proofs.Drafting.{nothing_added}
use Rattle.xapi_received.proofs.draft.Draft.pause.Goals as goal

pub returns-then-start-end-clause-adds : goal.returns-then-start-end-clause-adds
returns-then-start-end-clause-adds c = nothing_added c.args.self.now

pub returns-then-start-end-clause-ends : goal.returns-then-start-end-clause-ends
returns-then-start-end-clause-ends c = c.if-start-end.true ∙ c.in_ok-end.ensures ∙ ap length c.as_slice.ensures.value
