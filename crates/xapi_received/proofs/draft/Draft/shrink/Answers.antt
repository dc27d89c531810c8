use Rattle.std.proofs.Common.{ap, ◌∙◌}
use Rattle.xapi_received.specs.Excerpts.{listed}
use Rattle.xapi_received.specs.declared.excerpts.Excerpts.{Excerpts}
use Rattle.xapi_received.proofs.draft.Draft.shrink.Goals as goal

pub returns-clause-excerpts : goal.returns-clause-excerpts
returns-clause-excerpts c = c.shrunk.ensures ∙ ap (λ (ps : Excerpts). listed ps) c.replace-excerpts.ensures.value
