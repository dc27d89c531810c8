use Rattle.std.proofs.Common.{◌∙◌, ap}
use Rattle.lrs_parts.specs.Parts.{SeenParts}
use Rattle.lrs_history.specs.LrsStateRegistrations.{registration_under}
use Rattle.lrs_made.proofs.held.registration_under.Goals as goal

pub returns : goal.returns
returns c = c.find.ensures ∙ ap (λ (parts : SeenParts). registration_under c.args.id.now parts.learning.registrations.held) c.parts.view_is
