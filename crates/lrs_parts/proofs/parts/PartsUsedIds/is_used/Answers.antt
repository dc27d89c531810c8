use Rattle.std.proofs.Common.{◌∙◌, ap}
use Rattle.lrs_parts.specs.Parts.{SeenParts, state_of}
use Rattle.lrs_state.specs.State.{used_in}
use Rattle.lrs_parts.proofs.parts.PartsUsedIds.is_used.Goals as goal

pub returns : goal.returns
returns c = c.is_used_in.ensures ∙ ap (λ (v : SeenParts). (used_in (state_of v)).is_used c.args.id.now) c.self.view_is
