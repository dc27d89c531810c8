use Rattle.std.proofs.Common.{◌∙◌, ℕ, Option, ap}
use Rattle.std.specs.Prelude.{is_some}
use Rattle.lrs_parts.proofs.following.voids_anew.Goals as goal

pub returns : goal.returns
returns c = c.is_some.ensures ∙ ap (λ (o : Option ℕ). is_some o) c.voided_anew.ensures
