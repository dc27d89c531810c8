use Rattle.std.proofs.Common.{◌∙◌, ap, append-nil}
use Rattle.lrs_parts.specs.Parts.{SeenParts}
use Rattle.lrs_parts.proofs.parts.Parts.held_alone.Goals as goal

pub returns : goal.returns
returns c = append-nil c.self.inside.statements.held ∙ ap (λ (v : SeenParts). v.statements.held) c.self.view_is
