use Rattle.std.proofs.Common.{◌∙◌}
use Rattle.xapi_index.proofs.authorities.add.Goals as goal

pub returns : goal.returns
returns c = c.in_ok-shared.ensures ∙ c.in_ok-own.ensures
