use Rattle.std.proofs.Common.{sym, ap, ◌∙◌}
use Rattle.xapi_received.specs.Excerpts.{listed}
use Rattle.xapi_received.specs.declared.excerpts.Excerpts.{Excerpts}
use Rattle.xapi_received.proofs.excerpts.Excerpts.shrunk.Goals as goal

pub returns-in-More : goal.returns-in-More
returns-in-More c = c.fitted.ensures ∙ ap (λ (ps : Excerpts). listed ps) (sym c.in-More.is)
