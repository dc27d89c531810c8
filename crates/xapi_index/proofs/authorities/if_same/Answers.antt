use Rattle.std.proofs.Common.{sym, ◌∙◌}
use Rattle.xapi_index.proofs.authorities.if_same.Goals as goal

pub returns-then-is_same : goal.returns-then-is_same
returns-then-is_same c = sym c.get.ensures ∙ c.is_same.ensures.0 c.if-is_same.true
